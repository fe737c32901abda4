-- RFC 5545, section 3.1: folding a line at any place inside it leaves days and number as they were; only later line numbers move, by one.
-- Assumes nothing.
use Prim.Native.Nat.{ℕ, suc, ◌≤◌, ◌<◌}
use Rattle.std.proofs.Math.Path.{◌≡◌, refl, sym, ap}
use Rattle.std.proofs.Common.{◌∙◌, lt-ltb, le-ltb}
use Rattle.std.specs.Prelude.{Bool, ◌&&◌, ◌||◌, ltb, length, drop}
use Rattle.std.proofs.Math.Bool.{true, false}
use Rattle.std.proofs.lemmas.Bool.{false≢true}
use mathlib.Core.List.{List, [], ◌∷◌, ◌++◌}
use native.Mathlib.Omega.{arith}
use Rattle.std.proofs.Math.Dec.{eqb}
use Rattle.holidays.specs.Words.{Bytes, pick, LF, CR, TAB, BLANK}
use Rattle.holidays.specs.Lines.{starts_with, in_front, by_byte, physical, without_mark, continues, onto, continued, Line, unless, lines_from, lines_of}
use Rattle.holidays.specs.Nesting.{nested}
use Rattle.holidays.specs.Events.{events}
use Rattle.holidays.specs.Import.{gathered, size_ok, import_of}
use Rattle.holidays.specs.Inner.Cut.{folds}
use Rattle.holidays.specs.Laws.Walk.{first_line, later_lines, first_in_front, later_in_front, continues_folds, some_line, goes_on, goes_on_lines, file_lines}
use Rattle.holidays.specs.Laws.Renumber.{line_as, lines_as, import_as, renumbered}

-- a line end and a blank
abbrev pub FOLD : Bytes
FOLD = CR ∷ LF ∷ BLANK ∷ []

-- numbers behind line p move by one
unfoldable pub moved : ℕ → ℕ → ℕ
moved p k = pick (ltb p k) (suc k) k

-- the number of the line where the bytes end, if they start in line n
unfoldable pub line_at : ℕ → Bytes → ℕ
line_at n [] = n
line_at n (c ∷ u) = line_at (pick (eqb c LF) (suc n) n) u

moves : (p k : ℕ) → p < k → moved p k ≡ suc k
unfolding moved pick
moves p k h = rw (lt-ltb p k h)

stays : (p k : ℕ) → k ≤ p → moved p k ≡ k
unfolding moved pick
stays p k h = rw (le-ltb p k h)

line_on : (n : ℕ) (u : Bytes) → n ≤ line_at n u
unfolding line_at pick
line_on n [] = omega arith
line_on n (c ∷ u) = go (λ k. line_on k u) (eqb c LF)
  where
    go : ((k : ℕ) → k ≤ line_at k u) → (x : Bool) → n ≤ line_at (pick x (suc n) n) u
    go on true = omega (arith, on (suc n))
    go on false = on n

-- ---- lines whose numbers are one higher
unless_as : (f : ℕ → ℕ) (b : Bool) (l : Line) (ls : List Line) → lines_as f (unless b l ls) ≡ unless b (line_as f l) (lines_as f ls)
unfolding unless lines_as
unless_as f true l ls = refl
unless_as f false l ls = refl

up : (p k : ℕ) (ls : List Bytes) → p < k → lines_from (suc k) ls ≡ lines_as (moved p) (lines_from k ls)
unfolding lines_from lines_as
up p k [] h = refl
up p k (l ∷ ls) h =
    ap (unless (continues l) (record { number = suc k; bytes = l ++ continued ls })) (up p (suc k) ls (omega arith))
    ∙ ap (λ (i : ℕ). unless (continues l) (record { number = i; bytes = l ++ continued ls }) (lines_as (moved p) (lines_from (suc k) ls))) (sym (moves p k h))
    ∙ sym (unless_as (moved p) (continues l) (record { number = k; bytes = l ++ continued ls }) (lines_from (suc k) ls))

-- ---- the unfolded line from a place inside it, and the lines behind it
abbrev along : Bytes → Bytes
along s = first_line (physical s) ++ continued (later_lines (physical s))

abbrev behind : ℕ → Bytes → List Line
behind n s = lines_from n (later_lines (physical s))

-- from the start of a line
onto_drop : (l more : Bytes) → onto (continues l) l more ≡ pick (continues l) (drop 1 (l ++ more)) []
unfolding onto continues pick
onto_drop [] more = refl
onto_drop (x ∷ l) more = go (eqb x BLANK || eqb x TAB)
  where
    go : (b : Bool) → onto b (x ∷ l) more ≡ pick b (l ++ more) []
    go true = refl
    go false = refl

start_bytes : (s : Bytes) → physical s ≡ first_line (physical s) ∷ later_lines (physical s) → continued (physical s) ≡ pick (folds s) (drop 1 (along s)) []
unfolding continued
start_bytes s e =
    ap continued e ∙ onto_drop (first_line (physical s)) (continued (later_lines (physical s))) ∙ ap (λ (b : Bool). pick b (drop 1 (along s)) []) (continues_folds s)

start_lines : (n : ℕ) (s : Bytes) → physical s ≡ first_line (physical s) ∷ later_lines (physical s) → lines_from n (physical s) ≡ unless (folds s) (record { number = n; bytes = along s }) (behind (suc n) s)
unfolding lines_from
start_lines n s e =
    ap (lines_from n) e ∙ ap (λ (b : Bool). unless b (record { number = n; bytes = along s }) (behind (suc n) s)) (continues_folds s)

-- ---- r is s with a fold in line p
record Folded (n p : ℕ) (s r : Bytes) : Type 0 where
  bytes : along r ≡ along s
  lines : behind (suc n) r ≡ lines_as (moved p) (behind (suc n) s)

record Alike (s r : Bytes) : Type 0 where
  folds_same : folds r ≡ folds s
  feeds_same : starts_with LF r ≡ starts_with LF s
  one : physical s ≡ first_line (physical s) ∷ later_lines (physical s)
  two : physical r ≡ first_line (physical r) ∷ later_lines (physical r)

module _ (b : ℕ) (t : Bytes) (no_end : eqb b LF ≡ false) (no_return : (eqb b CR && starts_with LF t) ≡ false) where
  alike : (u : Bytes) → Alike (u ++ (b ∷ t)) (u ++ (b ∷ (FOLD ++ t)))
  unfolding folds starts_with
  alike [] = record { folds_same = refl; feeds_same = refl; one = some_line b t; two = some_line b (FOLD ++ t) }
  alike (c ∷ u) =
      record { folds_same = refl; feeds_same = refl; one = some_line c (u ++ (b ∷ t)); two = some_line c (u ++ (b ∷ (FOLD ++ t))) }

  never : (x : Bool) → (x && false) ≡ false
  never true = refl
  never false = refl

  -- at the place itself
  here : (n : ℕ) → Folded n n (b ∷ t) (b ∷ (FOLD ++ t))
  unfolding physical by_byte starts_with in_front first_line later_lines
  here n =
      let p : physical (b ∷ t) ≡ in_front b (physical t) = rw (no_end, no_return) in
      let q : physical (b ∷ (FOLD ++ t)) ≡ (b ∷ []) ∷ in_front BLANK (physical t) = rw (no_end, never (eqb b CR)) in
      let g : first_line (physical (b ∷ t)) ≡ b ∷ first_line (physical t) = ap first_line p ∙ first_in_front b (physical t) in
      let k : later_lines (physical (b ∷ t)) ≡ later_lines (physical t) = ap later_lines p ∙ later_in_front b (physical t) in
      record {
        bytes =
            ap (λ (ls : List Bytes). first_line ls ++ continued (later_lines ls)) q
            ∙ ap (λ (l : Bytes). b ∷ l) (goes_on BLANK (physical t) refl)
            ∙ sym (ap (λ (l : Bytes). l ++ continued (later_lines (physical (b ∷ t)))) g ∙ ap (λ (ls : List Bytes). b ∷ (first_line (physical t) ++ continued ls)) k);
        lines =
            ap (λ (ls : List Bytes). lines_from (suc n) (later_lines ls)) q
            ∙ goes_on_lines BLANK (suc n) (physical t) refl
            ∙ up n (suc n) (later_lines (physical t)) (omega arith)
            ∙ ap (λ (ls : List Bytes). lines_as (moved n) (lines_from (suc n) ls)) (sym k);
      }

-- ---- a byte before
module _ (n p c : ℕ) (s r : Bytes) (a : Alike s r) where
  before_end : suc n ≤ p → eqb c LF ≡ true → Folded (suc n) p s r → Folded n p (c ∷ s) (c ∷ r)
  unfolding physical by_byte first_line later_lines
  before_end l e h =
      let i : physical (c ∷ s) ≡ [] ∷ physical s = rw e in
      let j : physical (c ∷ r) ≡ [] ∷ physical r = rw e in
      record {
        bytes =
            ap (λ (ls : List Bytes). first_line ls ++ continued (later_lines ls)) j
            ∙ start_bytes r a.two
            ∙ ap (λ (x : Bool). pick x (drop 1 (along r)) []) a.folds_same
            ∙ ap (λ (x : Bytes). pick (folds s) (drop 1 x) []) h.bytes
            ∙ sym (ap (λ (ls : List Bytes). first_line ls ++ continued (later_lines ls)) i ∙ start_bytes s a.one);
        lines =
            ap (λ (ls : List Bytes). lines_from (suc n) (later_lines ls)) j
            ∙ start_lines (suc n) r a.two
            ∙ ap (λ (x : Bool). unless x (record { number = suc n; bytes = along r }) (behind (suc (suc n)) r)) a.folds_same
            ∙ ap (λ (x : Bytes). unless (folds s) (record { number = suc n; bytes = x }) (behind (suc (suc n)) r)) h.bytes
            ∙ ap (λ (ls : List Line). unless (folds s) (record { number = suc n; bytes = along s }) ls) h.lines
            ∙ ap (λ (k : ℕ). unless (folds s) (record { number = k; bytes = along s }) (lines_as (moved p) (behind (suc (suc n)) s))) (sym (stays p (suc n) l))
            ∙ sym (unless_as (moved p) (folds s) (record { number = suc n; bytes = along s }) (behind (suc (suc n)) s))
            ∙ ap (lines_as (moved p)) (sym (start_lines (suc n) s a.one))
            ∙ ap (λ (ls : List Bytes). lines_as (moved p) (lines_from (suc n) (later_lines ls))) (sym i);
      }

  before_other : eqb c LF ≡ false → Folded n p s r → Folded n p (c ∷ s) (c ∷ r)
  unfolding physical by_byte
  before_other e h = go (eqb c CR && starts_with LF s) refl
    where
      go : (y : Bool) → (eqb c CR && starts_with LF s) ≡ y → Folded n p (c ∷ s) (c ∷ r)
      go true q =
          let w : (eqb c CR && starts_with LF r) ≡ true = ap (λ (x : Bool). eqb c CR && x) a.feeds_same ∙ q in
          let i : physical (c ∷ s) ≡ physical s = rw (e, q) in
          let j : physical (c ∷ r) ≡ physical r = rw (e, w) in
          record {
            bytes = ap (λ (ls : List Bytes). first_line ls ++ continued (later_lines ls)) j ∙ h.bytes ∙ ap (λ (ls : List Bytes). first_line ls ++ continued (later_lines ls)) (sym i);
            lines = ap (λ (ls : List Bytes). lines_from (suc n) (later_lines ls)) j ∙ h.lines ∙ ap (λ (ls : List Bytes). lines_as (moved p) (lines_from (suc n) (later_lines ls))) (sym i);
          }
      go false q =
          let w : (eqb c CR && starts_with LF r) ≡ false = ap (λ (x : Bool). eqb c CR && x) a.feeds_same ∙ q in
          let i : physical (c ∷ s) ≡ in_front c (physical s) = rw (e, q) in
          let j : physical (c ∷ r) ≡ in_front c (physical r) = rw (e, w) in
          let i₁ : first_line (physical (c ∷ s)) ≡ c ∷ first_line (physical s) = ap first_line i ∙ first_in_front c (physical s) in
          let j₁ : first_line (physical (c ∷ r)) ≡ c ∷ first_line (physical r) = ap first_line j ∙ first_in_front c (physical r) in
          let i₂ : later_lines (physical (c ∷ s)) ≡ later_lines (physical s) = ap later_lines i ∙ later_in_front c (physical s) in
          let j₂ : later_lines (physical (c ∷ r)) ≡ later_lines (physical r) = ap later_lines j ∙ later_in_front c (physical r) in
          let x : along (c ∷ s) ≡ c ∷ along s = ap (λ (l : Bytes). l ++ continued (later_lines (physical (c ∷ s)))) i₁ ∙ ap (λ (ls : List Bytes). c ∷ (first_line (physical s) ++ continued ls)) i₂ in
          let z : along (c ∷ r) ≡ c ∷ along r = ap (λ (l : Bytes). l ++ continued (later_lines (physical (c ∷ r)))) j₁ ∙ ap (λ (ls : List Bytes). c ∷ (first_line (physical r) ++ continued ls)) j₂ in
          record {
            bytes = z ∙ ap (λ (l : Bytes). c ∷ l) h.bytes ∙ sym x;
            lines = ap (lines_from (suc n)) j₂ ∙ h.lines ∙ ap (λ (ls : List Bytes). lines_as (moved p) (lines_from (suc n) ls)) (sym i₂);
          }

module _ (b : ℕ) (t : Bytes) (no_end : eqb b LF ≡ false) (no_return : (eqb b CR && starts_with LF t) ≡ false) where
  folded : (n : ℕ) (u : Bytes) → Folded n (line_at n u) (u ++ (b ∷ t)) (u ++ (b ∷ (FOLD ++ t)))
  unfolding line_at pick
  folded n [] = here b t no_end no_return n
  folded n (c ∷ u) = go (λ k. folded k u) (eqb c LF) refl
    where
      go : ((k : ℕ) → Folded k (line_at k u) (u ++ (b ∷ t)) (u ++ (b ∷ (FOLD ++ t)))) → (x : Bool) → eqb c LF ≡ x → Folded n (line_at (pick x (suc n) n) u) (c ∷ (u ++ (b ∷ t))) (c ∷ (u ++ (b ∷ (FOLD ++ t))))
      go on true e = before_end n (line_at (suc n) u) c (u ++ (b ∷ t)) (u ++ (b ∷ (FOLD ++ t))) (alike b t no_end no_return u) (line_on (suc n) u) e (on (suc n))
      go on false e = before_other n (line_at n u) c (u ++ (b ∷ t)) (u ++ (b ∷ (FOLD ++ t))) (alike b t no_end no_return u) e (on n)

  -- ---- the lines, and the import
  lines_moved : (u : Bytes) (c d : ℕ) (s r : Bytes) → without_mark (c ∷ s) ≡ u ++ (b ∷ t) → without_mark (d ∷ r) ≡ u ++ (b ∷ (FOLD ++ t)) → lines_of (d ∷ r) ≡ lines_as (moved (line_at 1 u)) (lines_of (c ∷ s))
  unfolding lines_as
  lines_moved u c d s r p q =
      let h = folded 1 u in
      file_lines d r
      ∙ ap (λ (x : Bytes). record { number = 1; bytes = along x } ∷ behind 2 x) q
      ∙ ap (λ (x : Bytes). record { number = 1; bytes = x } ∷ behind 2 (u ++ (b ∷ (FOLD ++ t)))) h.bytes
      ∙ ap (λ (ls : List Line). record { number = 1; bytes = along (u ++ (b ∷ t)) } ∷ ls) h.lines
      ∙ ap (λ (k : ℕ). record { number = k; bytes = along (u ++ (b ∷ t)) } ∷ lines_as (moved (line_at 1 u)) (behind 2 (u ++ (b ∷ t)))) (sym (stays (line_at 1 u) 1 (line_on 1 u)))
      ∙ ap (lines_as (moved (line_at 1 u))) (sym (file_lines c s ∙ ap (λ (x : Bytes). record { number = 1; bytes = along x } ∷ behind 2 x) p))

  -- the file, and the same with a fold behind its byte b, which ends no line
  pub folding_is_nothing : (file other u : Bytes) (room : ℕ) → size_ok (length file) ≡ true → size_ok (length other) ≡ true → without_mark file ≡ u ++ (b ∷ t) → without_mark other ≡ u ++ (b ∷ (FOLD ++ t)) → import_of other room ≡ import_as (moved (line_at 1 u)) (import_of file room)
  unfolding import_of pick
  folding_is_nothing [] other u room i j p q = absurd (false≢true i)
  folding_is_nothing (c ∷ s) [] u room i j p q = absurd (false≢true j)
  folding_is_nothing (c ∷ s) (d ∷ r) u room i j p q = rw (i, j) (through (lines_of (c ∷ s)) (lines_of (d ∷ r)) (file_lines c s) (lines_moved u c d s r p q))
    where
      through : (ls ms : List Line) → ls ≡ record { number = 1; bytes = along (without_mark (c ∷ s)) } ∷ behind 2 (without_mark (c ∷ s)) → ms ≡ lines_as (moved (line_at 1 u)) ls → gathered room (events (nested ms)) [] ≡ import_as (moved (line_at 1 u)) (gathered room (events (nested ls)) [])
      through [] ms e f = let z : ◌≡◌ {A = ℕ} 0 1 = cc in let bad : ⊥ = omega arith in absurd bad
      through (l ∷ ls) ms e f = ap (λ (k : List Line). gathered room (events (nested k)) []) f ∙ renumbered (moved (line_at 1 u)) room l ls
