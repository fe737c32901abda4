-- The unfolded lines by one walk over the bytes: what the code keeps is a place and a line number, and each turn cuts one unfolded line off.
-- Assumes nothing.
use Rattle.std.specs.Prelude.{ℕ, zero, suc, ◌≤◌, ◌<◌, ◌≡◌, refl, Bool, true, false, ◌&&◌, ◌||◌, List, [], ◌∷◌, ◌++◌, eqb, length, take, drop}
use Rattle.std.proofs.Common.{sym, ap, ◌∙◌, arith, take-append-drop, length-drop, eqb-true}
use Rattle.std.proofs.lemmas.Bool.{false≢true}
use Rattle.refusal.specs.Laws.Answers.{both}
use Rattle.holidays.specs.Words.{Bytes, pick, equal, LF, CR, TAB, BLANK}
use Rattle.holidays.specs.Laws.Letters.{equal_is}
use Rattle.holidays.specs.Inner.Cut.{Cut, cut_byte, cut_start, cut_from, folds}
use Rattle.holidays.specs.Lines.{starts_with, in_front, by_byte, physical, without_mark, unmarked, continues, onto, continued, Line, unless, lines_from, unfolded, lines_of}

-- ---- first and later lines
unfoldable pub first_line : List Bytes → Bytes
first_line [] = []
first_line (l ∷ ls) = l

unfoldable pub later_lines : List Bytes → List Bytes
later_lines [] = []
later_lines (l ∷ ls) = ls

pub first_in_front : (b : ℕ) (ls : List Bytes) → first_line (in_front b ls) ≡ b ∷ first_line ls
unfolding first_line in_front
first_in_front b [] = refl
first_in_front b (l ∷ ls) = refl

pub later_in_front : (b : ℕ) (ls : List Bytes) → later_lines (in_front b ls) ≡ later_lines ls
unfolding later_lines in_front
later_in_front b [] = refl
later_in_front b (l ∷ ls) = refl

-- a byte that starts with a blank or a tab starts no line end
not_both : (b c d : ℕ) → eqb b c ≡ true → eqb c d ≡ false → eqb b d ≡ false
not_both b c d p q = rw (eqb-true b c p) q

fold_no_end : (b : ℕ) → (eqb b BLANK || eqb b TAB) ≡ true → (eqb b LF ≡ false) × (eqb b CR ≡ false)
fold_no_end b h = go (eqb b BLANK) (eqb b TAB) refl refl h
  where
    go : (x y : Bool) → eqb b BLANK ≡ x → eqb b TAB ≡ y → (x || y) ≡ true → (eqb b LF ≡ false) × (eqb b CR ≡ false)
    go true y p q i = (not_both b BLANK LF p refl, not_both b BLANK CR p refl)
    go false true p q i = (not_both b TAB LF q refl, not_both b TAB CR q refl)
    go false false p q i = absurd (false≢true i)

-- ---- the cut is what the physical lines say
-- of the bytes from the start of a line that may continue
pub record Started (n : ℕ) (s : Bytes) (c : Cut) : Type 0 where
  pub bytes : continued (physical s) ≡ c.bytes
  pub lines : lines_from n (physical s) ≡ lines_from c.number (physical c.rest)
  pub new_line : folds c.rest ≡ false
  pub shorter : length c.rest ≤ length s

-- of the bytes from inside line n
pub record Along (n : ℕ) (s : Bytes) (c : Cut) : Type 0 where
  pub bytes : first_line (physical s) ++ continued (later_lines (physical s)) ≡ c.bytes
  pub lines : lines_from (suc n) (later_lines (physical s)) ≡ lines_from c.number (physical c.rest)
  pub new_line : folds c.rest ≡ false
  pub shorter : length c.rest ≤ length s

-- a byte that ends a line is no blank and no tab
end_no_fold : (b c : ℕ) → eqb b c ≡ true → eqb c BLANK ≡ false → eqb c TAB ≡ false → (eqb b BLANK || eqb b TAB) ≡ false
end_no_fold b c p q r = rw (not_both b c BLANK p q, not_both b c TAB p r)

no_fold_at_end : (s : Bytes) → starts_with LF s ≡ true → folds s ≡ false
unfolding starts_with folds
no_fold_at_end [] h = refl
no_fold_at_end (b ∷ s) h = end_no_fold b LF h refl refl

-- the first line continues exactly if the bytes start so
pub continues_folds : (s : Bytes) → continues (first_line (physical s)) ≡ folds s
unfolding physical by_byte continues folds first_line
continues_folds [] = refl
continues_folds (b ∷ s) = go (eqb b LF) (eqb b CR && starts_with LF s) refl refl (continues_folds s)
  where
    go : (x y : Bool) → eqb b LF ≡ x → (eqb b CR && starts_with LF s) ≡ y → continues (first_line (physical s)) ≡ folds s → continues (first_line (by_byte x y b (physical s))) ≡ (eqb b BLANK || eqb b TAB)
    go true y p q h = sym (end_no_fold b LF p refl refl)
    go false true p q h =
        let t = both (eqb b CR) (starts_with LF s) q in
        h ∙ no_fold_at_end s t.1 ∙ sym (end_no_fold b CR t.0 refl refl)
    go false false p q h = ap continues (first_in_front b (physical s))

-- bytes have a line
pub some_line : (b : ℕ) (s : Bytes) → physical (b ∷ s) ≡ first_line (physical (b ∷ s)) ∷ later_lines (physical (b ∷ s))
unfolding physical by_byte first_line later_lines in_front starts_with
some_line b s = go (eqb b LF) (eqb b CR && starts_with LF s) refl
  where
    front : (ls : List Bytes) → in_front b ls ≡ first_line (in_front b ls) ∷ later_lines (in_front b ls)
    front [] = refl
    front (l ∷ ls) = refl

    again : (t : Bytes) → starts_with LF t ≡ true → physical t ≡ first_line (physical t) ∷ later_lines (physical t)
    again [] h = absurd (false≢true h)
    again (c ∷ t) h = rw h

    go : (x y : Bool) → (eqb b CR && starts_with LF s) ≡ y → by_byte x y b (physical s) ≡ first_line (by_byte x y b (physical s)) ∷ later_lines (by_byte x y b (physical s))
    go true y q = refl
    go false true q = again s (both (eqb b CR) (starts_with LF s) q).1
    go false false q = front (physical s)

-- a first line that starts anew continues nothing
anew : (ls : List Bytes) → continues (first_line ls) ≡ false → continued ls ≡ []
unfolding continued onto first_line
anew [] h = refl
anew (l ∷ ls) h = rw h

-- one that continues gives its bytes but the first to the line before
pub goes_on : (b : ℕ) (ls : List Bytes) → (eqb b BLANK || eqb b TAB) ≡ true → continued (in_front b ls) ≡ first_line ls ++ continued (later_lines ls)
unfolding continued onto first_line later_lines in_front continues
goes_on b [] h = rw h
goes_on b (l ∷ ls) h = rw h

pub goes_on_lines : (b n : ℕ) (ls : List Bytes) → (eqb b BLANK || eqb b TAB) ≡ true → lines_from n (in_front b ls) ≡ lines_from (suc n) (later_lines ls)
unfolding lines_from unless later_lines in_front continues
goes_on_lines b n [] h = rw h
goes_on_lines b n (l ∷ ls) h = rw h

-- ---- by induction over the bytes
start_step : (n b : ℕ) (s : Bytes) (c : Cut) → Along n s c → Started n (b ∷ s) (cut_start (eqb b BLANK || eqb b TAB) n (b ∷ s) c)
unfolding cut_start folds physical by_byte
start_step n b s c h = go (eqb b BLANK || eqb b TAB) refl
  where
    go : (x : Bool) → (eqb b BLANK || eqb b TAB) ≡ x → Started n (b ∷ s) (cut_start x n (b ∷ s) c)
    go true p =
        let e = fold_no_end b p in
        let f : physical (b ∷ s) ≡ in_front b (physical s) = rw (e.0, e.1) in
        record {
          bytes = ap continued f ∙ goes_on b (physical s) p ∙ h.bytes;
          lines = ap (lines_from n) f ∙ goes_on_lines b n (physical s) p ∙ h.lines;
          new_line = h.new_line;
          shorter = omega (arith, h.shorter);
        }
    go false p =
        record {
          bytes = anew (physical (b ∷ s)) (continues_folds (b ∷ s) ∙ p);
          lines = refl;
          new_line = p;
          shorter = omega arith;
        }

along_step : (n b : ℕ) (s : Bytes) (c d : Cut) → Started (suc n) s c → Along n s d → Along n (b ∷ s) (cut_byte (eqb b LF) (eqb b CR && starts_with LF s) b c d)
unfolding cut_byte physical by_byte first_line later_lines
along_step n b s c d h i = go (eqb b LF) (eqb b CR && starts_with LF s) refl refl
  where
    go : (x y : Bool) → eqb b LF ≡ x → (eqb b CR && starts_with LF s) ≡ y → Along n (b ∷ s) (cut_byte x y b c d)
    go true y p q =
        let f : physical (b ∷ s) ≡ [] ∷ physical s = rw p in
        record {
          bytes = ap (λ (ls : List Bytes). first_line ls ++ continued (later_lines ls)) f ∙ h.bytes;
          lines = ap (λ (ls : List Bytes). lines_from (suc n) (later_lines ls)) f ∙ h.lines;
          new_line = h.new_line;
          shorter = omega (arith, h.shorter);
        }
    go false true p q =
        let f : physical (b ∷ s) ≡ physical s = rw (p, q) in
        record {
          bytes = ap (λ (ls : List Bytes). first_line ls ++ continued (later_lines ls)) f ∙ i.bytes;
          lines = ap (λ (ls : List Bytes). lines_from (suc n) (later_lines ls)) f ∙ i.lines;
          new_line = i.new_line;
          shorter = omega (arith, i.shorter);
        }
    go false false p q =
        let f : physical (b ∷ s) ≡ in_front b (physical s) = rw (p, q) in
        let g : first_line (physical (b ∷ s)) ≡ b ∷ first_line (physical s) = ap first_line f ∙ first_in_front b (physical s) in
        let k : later_lines (physical (b ∷ s)) ≡ later_lines (physical s) = ap later_lines f ∙ later_in_front b (physical s) in
        record {
          bytes = ap (λ (l : Bytes). l ++ continued (later_lines (physical (b ∷ s)))) g ∙ ap (λ (ls : List Bytes). b ∷ (first_line (physical s) ++ continued ls)) k ∙ ap (λ (l : Bytes). b ∷ l) i.bytes;
          lines = ap (lines_from (suc n)) k ∙ i.lines;
          new_line = i.new_line;
          shorter = omega (arith, i.shorter);
        }

nothing_started : (n : ℕ) → Started n [] (record { bytes = []; number = n; rest = [] })
unfolding physical continued folds
nothing_started n = record { bytes = refl; lines = refl; new_line = refl; shorter = omega arith }

nothing_along : (n : ℕ) → Along n [] (record { bytes = []; number = n; rest = [] })
unfolding physical continued folds first_line later_lines lines_from
nothing_along n = record { bytes = refl; lines = refl; new_line = refl; shorter = omega arith }

mutual
  unfolding cut_from

  started : (n : ℕ) (s : Bytes) → Started n s (cut_from true n s)
  started n [] = nothing_started n
  started n (b ∷ s) = start_step n b s (cut_from false n s) (along n s)

  pub along : (n : ℕ) (s : Bytes) → Along n s (cut_from false n s)
  along n [] = nothing_along n
  along n (b ∷ s) = along_step n b s (cut_from true (suc n) s) (cut_from false n s) (started (suc n) s) (along n s)

-- ---- a cut takes a byte at least
cut_start_shorter : (x : Bool) (n : ℕ) (s : Bytes) (c : Cut) → length c.rest ≤ length s → length (cut_start x n s c).rest ≤ length s
unfolding cut_start
cut_start_shorter true n s c h = h
cut_start_shorter false n s c h = omega arith

pub cut_shorter : (n b : ℕ) (s : Bytes) → length (cut_from false n (b ∷ s)).rest ≤ length s
unfolding cut_from cut_byte
cut_shorter n b s = go (eqb b LF) (eqb b CR && starts_with LF s)
  where
    go : (x y : Bool) → length (cut_byte x y b (cut_from true (suc n) s) (cut_from false n s)).rest ≤ length s
    go true y = (started (suc n) s).shorter
    go false true = (along n s).shorter
    go false false = (along n s).shorter

-- ---- the lines, one cut after the other
unfoldable pub on_cut : ℕ → Cut → (ℕ → Bytes → List Line) → List Line
on_cut n c on = record { number = n; bytes = c.bytes } ∷ on c.number c.rest

-- a cut takes a byte at least, so that there are fewer lines than bytes and one
unfoldable pub walk : ℕ → ℕ → Bytes → List Line
walk zero n s = []
walk (suc fuel) n [] = []
walk (suc fuel) n (b ∷ s) = on_cut n (cut_from false n (b ∷ s)) (walk fuel)

first_walked : (n : ℕ) (ls : List Bytes) → ls ≡ first_line ls ∷ later_lines ls → continues (first_line ls) ≡ false → lines_from n ls ≡ record { number = n; bytes = first_line ls ++ continued (later_lines ls) } ∷ lines_from (suc n) (later_lines ls)
unfolding lines_from unless first_line later_lines
first_walked n [] e h = let z : ◌≡◌ {A = ℕ} 0 1 = ap length e in let bad : ⊥ = omega arith in absurd bad
first_walked n (l ∷ ls) e h = rw h

pub walked : (fuel n : ℕ) (s : Bytes) → length s < fuel → folds s ≡ false → lines_from n (physical s) ≡ walk fuel n s
unfolding walk on_cut lines_from physical
walked zero n s l h = let bad : ⊥ = omega arith in absurd bad
walked (suc fuel) n [] l h = refl
walked (suc fuel) n (b ∷ s) l h =
    let c : Cut = cut_from false n (b ∷ s) in
    let a = along n (b ∷ s) in
    let r = walked fuel c.number c.rest (omega (arith, cut_shorter n b s)) a.new_line in
    first_walked n (physical (b ∷ s)) (some_line b s) (continues_folds (b ∷ s) ∙ h)
    ∙ ap (λ (t : Bytes). record { number = n; bytes = t } ∷ lines_from (suc n) (later_lines (physical (b ∷ s)))) a.bytes
    ∙ ap (λ (ls : List Line). record { number = n; bytes = c.bytes } ∷ ls) (a.lines ∙ r)

-- ---- the mark of byte order may be taken off the bytes: it holds no line end
abbrev MARK : Bytes
MARK = 239 ∷ 187 ∷ 191 ∷ []

abbrev Plain : Bytes → Type 0
Plain [] = Unit {0}
Plain (c ∷ m) = (eqb c LF ≡ false) × (eqb c CR ≡ false) × Plain m

other_byte : (b c d : ℕ) → eqb b d ≡ true → eqb c d ≡ false → eqb b c ≡ false
other_byte b c d p q = go (eqb b c) refl
  where
    go : (x : Bool) → eqb b c ≡ x → x ≡ false
    go false e = refl
    go true e = let w : eqb c d ≡ true = rw (eqb-true b c e) at p in absurd (false≢true (sym q ∙ w))

same_front : (m s : Bytes) → Plain m → equal (take (length m) (first_line (physical s))) m ≡ equal (take (length m) s) m
unfolding equal first_line physical by_byte starts_with
same_front [] s h = refl
same_front (c ∷ m) [] h = refl
same_front (c ∷ m) (b ∷ s) h = go (eqb b LF) (eqb b CR && starts_with LF s) refl refl (same_front m s h.2)
  where
    empty : (t : Bytes) → starts_with LF t ≡ true → first_line (physical t) ≡ []
    empty [] e = refl
    empty (x ∷ t) e = rw e

    no : eqb b c ≡ false → false ≡ (eqb b c && equal (take (length m) s) m)
    no e = rw e

    go : (x y : Bool) → eqb b LF ≡ x → (eqb b CR && starts_with LF s) ≡ y → equal (take (length m) (first_line (physical s))) m ≡ equal (take (length m) s) m → equal (take (suc (length m)) (first_line (by_byte x y b (physical s)))) (c ∷ m) ≡ (eqb b c && equal (take (length m) s) m)
    go true y p q i = no (other_byte b c LF p h.0)
    go false true p q i =
        let t = both (eqb b CR) (starts_with LF s) q in
        ap (λ (l : Bytes). equal (take (suc (length m)) l) (c ∷ m)) (empty s t.1) ∙ no (other_byte b c CR t.0 h.1)
    go false false p q i =
        ap (λ (l : Bytes). equal (take (suc (length m)) l) (c ∷ m)) (first_in_front b (physical s)) ∙ ap (λ (x : Bool). eqb b c && x) i

marked_first : (s : Bytes) → drop 3 (first_line (physical (MARK ++ s))) ≡ first_line (physical s)
unfolding physical by_byte
marked_first s = ap (drop 3) (first_in_front 239 _ ∙ ap (λ (l : Bytes). 239 ∷ l) (first_in_front 187 _ ∙ ap (λ (l : Bytes). 187 ∷ l) (first_in_front 191 (physical s))))

marked_later : (s : Bytes) → later_lines (physical (MARK ++ s)) ≡ later_lines (physical s)
unfolding physical by_byte
marked_later s = later_in_front 239 _ ∙ later_in_front 187 _ ∙ later_in_front 191 (physical s)

-- first and later lines of the bytes without the mark
pub record Without (s : Bytes) : Type 0 where
  pub first : without_mark (first_line (physical s)) ≡ first_line (physical (without_mark s))
  pub later : later_lines (physical s) ≡ later_lines (physical (without_mark s))

without : (s : Bytes) → Without s
unfolding without_mark pick
without s = go (equal (take 3 s) MARK) refl
  where
    front : equal (take 3 (first_line (physical s))) MARK ≡ equal (take 3 s) MARK
    front = same_front MARK s (refl, refl, (refl, refl, (refl, refl, tt)))

    go : (x : Bool) → equal (take 3 s) MARK ≡ x → Without s
    go true e =
        let q : MARK ++ drop 3 s ≡ s = ap (λ (l : Bytes). l ++ drop 3 s) (sym (equal_is (take 3 s) MARK e)) ∙ take-append-drop 3 s in
        record {
          first = rw (front, e) (ap (λ (l : Bytes). drop 3 (first_line (physical l))) (sym q) ∙ marked_first (drop 3 s));
          later = rw e (ap (λ (l : Bytes). later_lines (physical l)) (sym q) ∙ marked_later (drop 3 s));
        }
    go false e = record { first = rw (front, e); later = rw e }

-- ---- the lines of a file that is not empty: the first continues none
first_unfolded : (ls : List Bytes) → ls ≡ first_line ls ∷ later_lines ls → unfolded (unmarked ls) ≡ record { number = 1; bytes = without_mark (first_line ls) ++ continued (later_lines ls) } ∷ lines_from 2 (later_lines ls)
unfolding unfolded unmarked first_line later_lines
first_unfolded [] e = let z : ◌≡◌ {A = ℕ} 0 1 = ap length e in let bad : ⊥ = omega arith in absurd bad
first_unfolded (l ∷ ls) e = refl

mark_shorter : (s : Bytes) → length (without_mark s) ≤ length s
unfolding without_mark pick
mark_shorter s = go (equal (take 3 s) MARK)
  where
    go : (x : Bool) → length (pick x (drop 3 s) s) ≤ length s
    go true = omega (arith, length-drop 3 s)
    go false = omega arith

-- the first line, and those behind it
pub file_lines : (b : ℕ) (s : Bytes) → lines_of (b ∷ s) ≡ record { number = 1; bytes = first_line (physical (without_mark (b ∷ s))) ++ continued (later_lines (physical (without_mark (b ∷ s)))) } ∷ lines_from 2 (later_lines (physical (without_mark (b ∷ s))))
unfolding lines_of
file_lines b s =
    let t : Bytes = without_mark (b ∷ s) in
    let w = without (b ∷ s) in
    first_unfolded (physical (b ∷ s)) (some_line b s)
    ∙ ap (λ (l : Bytes). record { number = 1; bytes = l ++ continued (later_lines (physical (b ∷ s))) } ∷ lines_from 2 (later_lines (physical (b ∷ s)))) w.first
    ∙ ap (λ (ls : List Bytes). record { number = 1; bytes = first_line (physical t) ++ continued ls } ∷ lines_from 2 ls) w.later

pub file_walked : (b : ℕ) (s : Bytes) → lines_of (b ∷ s) ≡ on_cut 1 (cut_from false 1 (without_mark (b ∷ s))) (walk (suc (suc (length s))))
unfolding on_cut
file_walked b s =
    let t : Bytes = without_mark (b ∷ s) in
    let c : Cut = cut_from false 1 t in
    let a = along 1 t in
    file_lines b s
    ∙ ap (λ (l : Bytes). record { number = 1; bytes = l } ∷ lines_from 2 (later_lines (physical t))) a.bytes
    ∙ ap (λ (ls : List Line). record { number = 1; bytes = c.bytes } ∷ ls) (a.lines ∙ walked (suc (suc (length s))) c.number c.rest (omega (arith, a.shorter, mark_shorter (b ∷ s))) a.new_line)
