-- A file that was written line by line is read line by line.
-- Assumes nothing.
use Rattle.std.specs.Prelude.{ℕ, suc, ◌<◌, ◌≡◌, refl, Bool, true, false, ◌&&◌, List, [], ◌∷◌, ◌++◌, eqb, ltb}
use Rattle.std.proofs.Common.{ap, ◌∙◌, append-nil, arith, ltb-true, ne_eqb}
use Rattle.refusal.specs.Laws.Answers.{both}
use Rattle.holidays.specs.Words.{Bytes, LF, CR, BLANK, TAB}
use Rattle.holidays.specs.Lines.{starts_with, in_front, by_byte, physical, continues, onto, continued, Line, unless, lines_from, unmarked, unfolded, lines_of}
use Rattle.publishing.specs.File.{written}

-- ---- a line without control bytes
abbrev pub Clear : Bytes → Type 0
Clear [] = Unit {0}
Clear (b ∷ s) = (BLANK < b) × Clear s

unfoldable pub clear : Bytes → Bool
clear [] = true
clear (b ∷ s) = ltb BLANK b && clear s

pub are_clear : (s : Bytes) → clear s ≡ true → Clear s
unfolding clear
are_clear [] h = tt
are_clear (b ∷ s) h =
    let p = both (ltb BLANK b) (clear s) h in
    (ltb-true BLANK b p.0, are_clear s p.1)

pub clear_more : (s t : Bytes) → Clear s → Clear t → Clear (s ++ t)
clear_more [] t p q = q
clear_more (b ∷ s) t p q = (p.0, clear_more s t p.1 q)

abbrev pub AllClear : List Bytes → Type 0
AllClear [] = Unit {0}
AllClear (l ∷ ls) = Clear l × AllClear ls

pub all_more : (ls ms : List Bytes) → AllClear ls → AllClear ms → AllClear (ls ++ ms)
all_more [] ms p q = q
all_more (l ∷ ls) ms p q = (p.0, all_more ls ms p.1 q)

-- ---- physical lines
ends : (s : Bytes) → physical (CR ∷ LF ∷ s) ≡ [] ∷ physical s
unfolding physical by_byte starts_with
ends s = refl

line_first : (l s : Bytes) → Clear l → physical (l ++ (CR ∷ LF ∷ s)) ≡ l ∷ physical s
unfolding physical by_byte in_front
line_first [] s c = ends s
line_first (b ∷ l) s c = go (line_first l s c.1) (ne_eqb b LF (no_feed c.0)) (ne_eqb b CR (no_return c.0))
  where
    no_feed : BLANK < b → b ≡ LF → ⊥
    no_feed h e = omega arith

    no_return : BLANK < b → b ≡ CR → ⊥
    no_return h e = omega arith

    go : physical (l ++ (CR ∷ LF ∷ s)) ≡ l ∷ physical s → eqb b LF ≡ false → eqb b CR ≡ false → physical (b ∷ (l ++ (CR ∷ LF ∷ s))) ≡ (b ∷ l) ∷ physical s
    go on p q = rw (p, q, on)

no_lines : physical [] ≡ []
unfolding physical
no_lines = refl

pub physical_lines : (ls : List Bytes) → AllClear ls → physical (written ls) ≡ ls
unfolding written
physical_lines [] c = no_lines
physical_lines (l ∷ ls) c = line_first l (written ls) c.0 ∙ ap (λ (ms : List Bytes). l ∷ ms) (physical_lines ls c.1)

-- ---- none of them continues another
unfoldable pub numbered : ℕ → List Bytes → List Line
numbered n [] = []
numbered n (l ∷ ls) = record { number = n; bytes = l } ∷ numbered (suc n) ls

starts : (l : Bytes) → Clear l → continues l ≡ false
unfolding continues
starts [] c = refl
starts (b ∷ s) c = rw (ne_eqb b BLANK (no_blank c.0), ne_eqb b TAB (no_tab c.0))
  where
    no_blank : BLANK < b → b ≡ BLANK → ⊥
    no_blank h e = omega arith

    no_tab : BLANK < b → b ≡ TAB → ⊥
    no_tab h e = omega arith

none_goes_on : (ls : List Bytes) → AllClear ls → continued ls ≡ []
unfolding continued onto
none_goes_on [] c = refl
none_goes_on (l ∷ ls) c = rw (starts l c.0)

whole : (l : Bytes) (ls : List Bytes) → AllClear ls → l ++ continued ls ≡ l
whole l ls c = rw (none_goes_on ls c) (append-nil l)

pub lines_numbered : (n : ℕ) (ls : List Bytes) → AllClear ls → lines_from n ls ≡ numbered n ls
unfolding lines_from unless numbered
lines_numbered n [] c = refl
lines_numbered n (l ∷ ls) c = rw (starts l c.0, whole l ls c.1, lines_numbered (suc n) ls c.1)

pub unfolded_numbered : (ls : List Bytes) → AllClear ls → unfolded ls ≡ numbered 1 ls
unfolding unfolded numbered
unfolded_numbered [] c = refl
unfolded_numbered (l ∷ ls) c = rw (whole l ls c.1, lines_numbered 2 ls c.1)

pub lines_of_written : (ls : List Bytes) → AllClear ls → unmarked ls ≡ ls → lines_of (written ls) ≡ numbered 1 ls
unfolding lines_of
lines_of_written ls c e = ap (λ (ms : List Bytes). unfolded (unmarked ms)) (physical_lines ls c) ∙ ap unfolded e ∙ unfolded_numbered ls c
