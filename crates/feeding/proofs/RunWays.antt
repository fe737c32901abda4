-- Laws of a run and of a part: one for each way through the code.
-- Assumes nothing.
use Prim.Native.Nat.{ℕ, ◌+◌, ◌-◌, ◌≤◌, ◌<◌}
use mathlib.Core.Path.{◌≡◌, refl, sym, ap, ◌∙◌}
use mathlib.Core.Bool.{Bool, true, false}
use mathlib.Core.List.{List, [], ◌∷◌, ◌++◌}
use native.Mathlib.Nat.{le_antisymm}
use native.Mathlib.Numerals.{add-one}
use native.Mathlib.Omega.{arith}
use borrow.Author.Rules.{rules}
use lib.ListN.{length, get_or, take, drop, set, length-set, drop_of_length-le, take-append-drop, length-drop}
use lib.Seq.{drop-cons, paste, paste-zero, paste-suc, take-length, drop-drop, length-take-le}
use Rattle.request.specs.Laws.Picks.{taken, left}
use Rattle.feeding.specs.declared.State.{State}
use Rattle.feeding.specs.Feed.{keeps_of, eat_of, keep_of, eaten, laid}
use Rattle.feeding.specs.Inner.Runs.{Run, Running, ran, copied, Taken}
use Rattle.feeding.specs.Laws.Cut.{eaten_cut, laid_cut}
use Rattle.feeding.specs.Laws.Run.{run_eaten, run_laid}

-- ---- a copy
pub record Copying (part buffer₀ : List ℕ) (at : ℕ) (buffer : List ℕ) (j : ℕ) : Type 0 where
  pub within : j ≤ length part
  pub long : length buffer ≡ length buffer₀
  pub same : buffer ≡ paste buffer₀ at part j

pub copy_start : {part buffer : List ℕ} {at : ℕ} → Copying part buffer at buffer 0
copy_start {part} {buffer} {at} = record { within = omega arith; long = refl; same = paste-zero buffer at part }

module _ {part buffer₀ : List ℕ} {at : ℕ} {buffer : List ℕ} {j : ℕ} (g : Copying part buffer₀ at buffer j) where
  pub copy_more : at + length part ≤ length buffer₀ → j < length part → Copying part buffer₀ at (set buffer (at + j) (get_or part j 0)) (j + 1)
  copy_more room h = record {
    within = omega arith;
    long = length-set buffer (at + j) (get_or part j 0) ∙ g.long;
    same = ap (λ (l : List ℕ). set l (at + j) (get_or part j 0)) g.same ∙ paste-suc buffer₀ at part j 0 (omega (arith, room, h)) h ∙ ap (paste buffer₀ at part) (sym (add-one j));
  }

  pub copy_end : length part ≤ j → buffer ≡ copied buffer₀ at part
  unfolding copied
  copy_end h =
      g.same ∙ ap (paste buffer₀ at part) (le_antisymm g.within h)
      ∙ ap (λ (l : List ℕ). take at buffer₀ ++ l ++ drop (at + length part) buffer₀) (take-length part)

  pub copy_long : length buffer ≡ length buffer₀
  copy_long = g.long

pub ruleset copies = (copy_start, copy_more, copy_end, copy_long, rules)

-- ---- a part
pub record Walking (part buffer₀ : List ℕ) (s₀ : State) (buffer : List ℕ) (s : State) (j : ℕ) : Type 0 where
  pub within : j ≤ length part
  pub long : length buffer ≡ length buffer₀
  pub state : eaten s (drop j part) ≡ eaten s₀ part
  pub bytes : laid s (drop j part) buffer ≡ laid s₀ part buffer₀

pub walking_start : {part buffer : List ℕ} {s : State} → Walking part buffer s buffer s 0
walking_start = record { within = omega arith; long = refl; state = refl; bytes = refl }

module _ {part buffer₀ : List ℕ} {s₀ : State} {buffer : List ℕ} {s : State} {j : ℕ} (g : Walking part buffer₀ s₀ buffer s j) where
  pub walking_long : length buffer ≡ length buffer₀
  walking_long = g.long

  pub walking_room : 20000 ≤ length buffer₀ → 20000 ≤ length buffer
  walking_room h = omega (arith, g.long)

  -- one byte
  module _ (h : j < length part) {t : State} (e : t ≡ eat_of s (get_or part j 0)) {buffer' : List ℕ} (kept : buffer' ≡ keep_of s (get_or part j 0) buffer) where
    cons : drop j part ≡ get_or part j 0 ∷ drop (j + 1) part
    cons = drop-cons part j 0 h ∙ ap (λ (k : ℕ). get_or part j 0 ∷ drop k part) (sym (add-one j))

    pub walking_byte : Walking part buffer₀ s₀ buffer' t (j + 1)
    unfolding eaten laid keep_of
    walking_byte =
        record {
          within = omega arith;
          long = ap length kept ∙ kept_long ∙ g.long;
          state = ap (λ (x : State). eaten x (drop (j + 1) part)) e ∙ sym (ap (eaten s) cons) ∙ g.state;
          bytes = ap (λ (x : State). laid x (drop (j + 1) part) buffer') e ∙ ap (laid (eat_of s (get_or part j 0)) (drop (j + 1) part)) kept ∙ sym (ap (λ (l : List ℕ). laid s l buffer) cons) ∙ g.bytes;
        }
      where
        by : (b : Bool) → keeps_of s ≡ b → length (keep_of s (get_or part j 0) buffer) ≡ length buffer
        by true y = ap length (taken (set buffer s.kept (get_or part j 0)) buffer y) ∙ length-set buffer s.kept (get_or part j 0)
        by false y = ap length (left (set buffer s.kept (get_or part j 0)) buffer y)

        kept_long : length (keep_of s (get_or part j 0) buffer) ≡ length buffer
        kept_long = by (keeps_of s) refl

  -- a run
  module _ {n : ℕ} (r : Running s (length part - j) n) (some : n ≡ 0 → ⊥) where
    is_run : Run s n
    is_run = r.runs some

    pub run_within : j + n ≤ length part
    run_within = omega (arith, r.within, g.within)

    pub run_due : n ≤ s.due
    run_due = is_run.due

    pub run_kept : s.kept + n ≤ 20000
    run_kept = is_run.kept

    pub run_fed : s.fed + n ≤ 20000
    run_fed = is_run.fed

    abbrev bit : List ℕ
    bit = take n (drop j part)

    lent : take (j + n - j) (drop j part) ≡ bit
    lent = let e : j + n - j ≡ n = omega arith in ap (λ (i : ℕ). take i (drop j part)) e

    size : length bit ≡ n
    size = length-take-le n (drop j part) (omega (arith, length-drop j part, run_within))

    cut : drop j part ≡ bit ++ drop (j + n) part
    cut = sym (take-append-drop n (drop j part)) ∙ ap (λ (l : List ℕ). bit ++ l) (drop-drop n j part)

    some_bit : length bit ≡ 0 → ⊥
    some_bit e = some (sym size ∙ e)

    run_bit : Run s (length bit)
    run_bit = rw size is_run

    pub run_room : 20000 ≤ length buffer₀ → s.kept + length (take (j + n - j) (drop j part)) ≤ length buffer
    run_room room = omega (arith, g.long, ap length lent, size, run_kept)

    pub walking_run : {t : State} {buffer' : List ℕ} → 20000 ≤ length buffer₀ → length buffer' ≡ length buffer → buffer' ≡ copied buffer s.kept (take (j + n - j) (drop j part)) → t ≡ ran s n → Walking part buffer₀ s₀ buffer' t (j + n)
    walking_run {t} {buffer'} room long kept e =
        let room' : s.kept + length bit ≤ length buffer = omega (arith, g.long, size, run_kept) in
        let behind : eaten s bit ≡ t = run_eaten s bit some_bit run_bit ∙ ap (ran s) size ∙ sym e in
        let put : laid s bit buffer ≡ buffer' = run_laid s bit buffer some_bit run_bit room' ∙ sym (kept ∙ ap (copied buffer s.kept) lent) in
        record {
          within = run_within;
          long = long ∙ g.long;
          state = ap (λ (x : State). eaten x (drop (j + n) part)) (sym behind) ∙ sym (eaten_cut s bit (drop (j + n) part)) ∙ sym (ap (eaten s) cut) ∙ g.state;
          bytes = ap (λ (x : State). laid x (drop (j + n) part) buffer') (sym behind) ∙ ap (laid (eaten s bit) (drop (j + n) part)) (sym put) ∙ sym (laid_cut s bit (drop (j + n) part) buffer) ∙ sym (ap (λ (l : List ℕ). laid s l buffer) cut) ∙ g.bytes;
        }

  pub walking_end : length part ≤ j → Taken s₀ part buffer₀ s buffer
  unfolding eaten laid
  walking_end h =
      let z : drop j part ≡ [] = drop_of_length-le part h in
      record { state = sym (ap (eaten s) z) ∙ g.state; bytes = sym (ap (λ (l : List ℕ). laid s l buffer) z) ∙ g.bytes }

pub ruleset walking = (walking_start, walking_long, walking_room, walking_byte, run_within, run_due, run_kept, run_fed, run_room, walking_run, walking_end, rules)
