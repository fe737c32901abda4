-- Laws of what the fields ask for: one for each way through the code.
-- Assumes nothing.
use Prim.Native.Nat.{ℕ, ◌+◌, ◌-◌, ◌/◌, ◌≤◌, ◌<◌}
use mathlib.Core.Path.{◌≡◌, refl, sym, ap, ◌∙◌}
use mathlib.Core.Bool.{Bool, true, false, ◌&&◌}
use mathlib.Core.List.{List, []}
use native.Mathlib.Omega.{arith}
use borrow.Author.Rules.{rules}
use borrow.Author.Tests.{eq-eqb, ne_eqb, le-leb, lt-leb, le-ltb, lt-ltb}
use lib.Dec.{leb}
use lib.IntN.{ℤ}
use lib.ListN.{length, get_or, take, drop}
use mir.Syntax.{w32}
use mir.Val.{SFits, to_z, of_z}
use mir.Facts.{to_z-of_z}
use Rattle.refusal.specs.Answer.{given}
use Rattle.refusal.specs.Laws.Answers.{fails, holds}
use Rattle.steps.specs.declared.Request.{Request}
use Rattle.steps.specs.Build.{over}
use Rattle.request.specs.declared.Decoded.{Decoded}
use Rattle.std.specs.Prelude.{Result, Ok, Err}
use Rattle.refusal.specs.declared.Refusal.{Refusal}
use Rattle.refusal.specs.declared.Refusal.TheVariants as refusal-is
use Rattle.period.specs.declared.Unit.{Unit}
use Rattle.request.specs.Format.{signed16, is_date, byte_of, unit_of, tenor_of, dates_of, request_from, closed_from, asked_from}
use Rattle.request.specs.Inner.Places.{two_at, Pair, placed}
use Rattle.request.specs.Stored.{body_in, width_of, stored, stored_in}
use Rattle.request.specs.Laws.Picks.{taken, left}
use Rattle.request.specs.Decode.{counted, closed_dates_after, Decodes}
use Rattle.request.specs.Laws.Promise.{refuses, same_promise}
use Rattle.request.proofs.WriteWays.{dates_length}

both : {a b x y : Bool} → a ≡ x → b ≡ y → a && b ≡ x && y
both p q = cc

module _ (body : List ℕ → ℕ → List ℕ) (l : List ℕ) where
  pub ask_first : is_date (body [] 1) ≡ false → Decodes (asked_from (length l) body) (Err refusal-is.Request) l l
  unfolding asked_from
  ask_first e = refuses refusal-is.Request (fails 17 _ _ (ap (λ (b : Bool). b && is_date (body [] 2)) e))

  module _ (first : is_date (body [] 1) ≡ true) where
    pub ask_second : is_date (body [] 2) ≡ false → Decodes (asked_from (length l) body) (Err refusal-is.Request) l l
    unfolding asked_from
    ask_second e = refuses refusal-is.Request (fails 17 _ _ (both first e))

    module _ (second : is_date (body [] 2) ≡ true) {s : List ℕ} (is : s ≡ body [] 11) where
      closed_is : closed_from body ≡ dates_of (length s / 4) s
      unfolding closed_from
      closed_is = sym (ap (λ (z : List ℕ). dates_of (length z / 4) z) is)

      closed_long : length (closed_from body) ≡ length s / 4
      closed_long = ap length closed_is ∙ dates_length (length s / 4) s

      pub ask_room : length l < length s / 4 → Decodes (asked_from (length l) body) (Err refusal-is.Room) l l
      unfolding asked_from
      ask_room h = refuses refusal-is.Room (holds 17 _ _ _ (both first second) (fails 14 _ _ (lt-leb (length (closed_from body)) (length l) (omega (arith, h, closed_long)))))

      module _ (fits : length s / 4 ≤ length l) {l' : List ℕ} (wrote : l' ≡ over (dates_of (length s / 4) s) l) {q : Request} (asks : q ≡ request_from body) where
        asked : given (record { request = request_from body; closed = closed_from body }) ≡ asked_from (length l) body
        unfolding asked_from
        asked = holds 17 _ _ _ (both first second) (holds 14 _ _ _ (le-leb (length (closed_from body)) (length l) (omega (arith, fits, closed_long))) refl)

        pub ask_given : Decodes (asked_from (length l) body) (Ok (record { request = q; closed = length s / 4 })) l l'
        unfolding counted closed_dates_after
        ask_given =
            let n : length s / 4 ≡ length (closed_from body) = sym closed_long in
            same_promise asked (record { answer = ap given (λ i. record { request = asks i; closed = n i }); dates = wrote ∙ ap (λ (x : List ℕ). over x l) (sym closed_is) })

-- ---- a tenor, with a length that 32 bits hold
pub tenor_is : (body : List ℕ) {r : ℕ} {z : ℤ} {u : Unit} → Pair body 1 r → SFits w32 z → z ≡ signed16 r → u ≡ unit_of (byte_of body) → record { length = to_z w32 (of_z w32 z); unit = u } ≡ tenor_of body
unfolding tenor_of
tenor_is body {r} {z} {u} p f e q =
    let n : to_z w32 (of_z w32 z) ≡ z = to_z-of_z {w = w32} {z = z} f in
    let m : r ≡ two_at body 1 = p.same in
    cc

-- ---- bodies behind their headers
module _ (bytes places left_out : List ℕ) (tag : ℕ) {p : ℕ} (at : p ≡ get_or places tag 0) where
  pub placed_none : p ≡ 0 → left_out ≡ placed bytes places left_out tag
  placed_none e = sym (taken _ _ (eq-eqb (get_or places tag 0) 0 (sym at ∙ e)))

  module _ (some : p ≡ 0 → ⊥) where
    pub placed_some : {n : ℕ} → Pair bytes (p - 2) n → take (p + n - p) (drop p bytes) ≡ placed bytes places left_out tag
    placed_some {n} pair =
        let e : p + n - p ≡ n = omega arith in
        let s : n ≡ two_at bytes (p - 2) = pair.same in
        rw (e, s) (rw at (sym (left _ _ (ne_eqb (get_or places tag 0) 0 (λ z. some (at ∙ z))))))

-- ---- bodies without headers
module _ (bytes places left_out : List ℕ) (count tag : ℕ) where
  pub stored_nowhere : 12 ≤ tag → left_out ≡ stored bytes places count left_out tag
  unfolding stored
  stored_nowhere h = sym (left _ _ (le-ltb tag 12 h))

  module _ (known : tag < 12) {n : ℕ} (wide : n ≡ width_of count tag) where
    pub stored_without : leb (get_or places tag 0 + n) 20000 ≡ false → left_out ≡ stored bytes places count left_out tag
    unfolding stored body_in
    stored_without e = sym (taken _ _ (lt-ltb tag 12 known) ∙ left _ _ (rw wide at e))

    pub stored_with : leb (get_or places tag 0 + n) 20000 ≡ true → take (get_or places tag 0 + n - get_or places tag 0) (drop (get_or places tag 0) bytes) ≡ stored bytes places count left_out tag
    unfolding stored body_in
    stored_with e =
        let k : get_or places tag 0 + n - get_or places tag 0 ≡ n = omega arith in
        rw (k, wide) (sym (taken _ _ (lt-ltb tag 12 known) ∙ taken _ _ (rw wide at e)))

-- ---- the whole request without headers
module _ (bytes places : List ℕ) (count : ℕ) {l : List ℕ} where
  pub read_short : length bytes < 20000 → Decodes (stored_in bytes places count (length l)) (Err refusal-is.Buffer) l l
  unfolding stored_in
  read_short h = refuses refusal-is.Buffer (fails 18 _ _ (lt-leb 20000 (length bytes) h))

  pub read_stored : {r : Result Decoded Refusal} {l' : List ℕ} → 20000 ≤ length bytes → Decodes (asked_from (length l) (stored bytes places count)) r l l' → Decodes (stored_in bytes places count (length l)) r l l'
  unfolding stored_in
  read_stored h d = same_promise (holds 18 _ _ _ (le-leb 20000 (length bytes) h) refl) d

pub ruleset reads_in = (read_short, read_stored, rules)
