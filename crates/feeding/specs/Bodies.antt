-- Document 02, L1: the bodies of the fields that the bytes hold, back to back, by the format alone.
-- Assumes nothing.
use Rattle.std.specs.Prelude.{ℕ, zero, suc, ◌+◌, Bool, true, false, List, [], ◌++◌, eqb, leb, length, take, drop, get_or}
use Rattle.request.specs.Tags.{END}
use Rattle.request.specs.Format.{size_in}

-- a field: three bytes of header, then as many bytes of body as the length says or as are there; FF is the last
unfoldable pub on_tag_in : Bool → List ℕ → (List ℕ → List ℕ) → List ℕ
on_tag_in true s on = take (size_in s) (drop 3 s)
on_tag_in false s on = take (size_in s) (drop 3 s) ++ on (drop (3 + size_in s) s)

unfoldable pub on_header : Bool → List ℕ → (List ℕ → List ℕ) → List ℕ
on_header true s on = on_tag_in (eqb (get_or s 0 0) END) s on
on_header false s on = []

-- each field takes three bytes at least, so that there are fewer of them than bytes
unfoldable pub bodies_from : ℕ → List ℕ → List ℕ
bodies_from zero s = []
bodies_from (suc n) s = on_header (leb 3 (length s)) s (bodies_from n)

-- within the first 20,000 bytes
unfoldable pub bodies : List ℕ → List ℕ
bodies w = bodies_from (suc (length (take 20000 w))) (take 20000 w)
