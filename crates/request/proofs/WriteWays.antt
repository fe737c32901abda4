-- Laws of the dates written: the list's first j places hold the first j of them.
-- Assumes nothing.
use Prim.Native.Nat.{ℕ, zero, suc, ◌+◌, ◌*◌, ◌/◌, ◌≤◌, ◌<◌}
use mathlib.Core.Path.{◌≡◌, refl, sym, ap, ◌∙◌}
use mathlib.Core.List.{List, ◌++◌}
use native.Mathlib.Nat.{le_antisymm, zero-add}
use native.Mathlib.Numerals.{add-one}
use native.Mathlib.Omega.{arith}
use borrow.Author.Rules.{rules}
use lib.ListN.{length, get_or, take, drop, set, length-set}
use lib.Seq.{get_or-drop, paste-suc, take-length}
use Rattle.steps.specs.Build.{over}
use Rattle.request.specs.Format.{four, dates_of}

pub dates_length : (n : ℕ) (s : List ℕ) → length (dates_of n s) ≡ n
unfolding dates_of
dates_length zero s = refl
dates_length (suc n) s = ap suc (dates_length n (drop 4 s))

four_eq : {a b c d a' b' c' d' : ℕ} → a ≡ a' → b ≡ b' → c ≡ c' → d ≡ d' → four a b c d ≡ four a' b' c' d'
four_eq p q r t = cc

past : (s : List ℕ) (i k : ℕ) → 4 + i ≡ k → get_or (drop 4 s) i 0 ≡ get_or s k 0
past s i k e = get_or-drop 4 s i 0 ∙ ap (λ (m : ℕ). get_or s m 0) e

dates_get : (n : ℕ) (s : List ℕ) (j : ℕ) → j < n → get_or (dates_of n s) j 0 ≡ four (get_or s (j * 4) 0) (get_or s (j * 4 + 1) 0) (get_or s (j * 4 + 2) 0) (get_or s (j * 4 + 3) 0)
unfolding dates_of
dates_get zero s j h = absurd (omega arith)
dates_get (suc n) s zero h = refl
dates_get (suc n) s (suc j) h =
    dates_get n (drop 4 s) j (omega arith)
    ∙ four_eq (past s (j * 4) (suc j * 4) (omega arith)) (past s (j * 4 + 1) (suc j * 4 + 1) (omega arith)) (past s (j * 4 + 2) (suc j * 4 + 2) (omega arith)) (past s (j * 4 + 3) (suc j * 4 + 3) (omega arith))

pub record Writing (body l₀ l : List ℕ) (j : ℕ) : Type 0 where
  pub within : j ≤ length body / 4
  pub long : length l ≡ length l₀
  pub same : l ≡ take j (dates_of (length body / 4) body) ++ drop j l₀

pub writing_start : {body l : List ℕ} → Writing body l l 0
writing_start = record { within = omega arith; long = refl; same = refl }

laid : (d s : List ℕ) (j : ℕ) → j < length d → j < length s → set (take j s ++ drop j d) j (get_or s j 0) ≡ take (j + 1) s ++ drop (j + 1) d
laid d s j h l = rw add-one (simp zero-add at (paste-suc d 0 s j 0 (omega arith) l))

pub writing_more : {body l₀ l : List ℕ} {j r : ℕ} → length body / 4 ≤ length l₀ → Writing body l₀ l j → j < length body / 4
    → r ≡ four (get_or body (j * 4) 0) (get_or body (j * 4 + 1) 0) (get_or body (j * 4 + 2) 0) (get_or body (j * 4 + 3) 0) → Writing body l₀ (set l j r) (j + 1)
writing_more {body} {l₀} {l} {j} {r} few g h e =
    record {
      within = omega arith;
      long = length-set l j r ∙ g.long;
      same =
          ap (λ (v : ℕ). set l j v) (e ∙ sym (dates_get (length body / 4) body j h)) ∙ ap (λ (z : List ℕ). set z j (get_or (dates_of (length body / 4) body) j 0)) g.same
          ∙ laid l₀ (dates_of (length body / 4) body) j (omega (arith, few, h)) (omega (arith, dates_length (length body / 4) body));
    }

pub writing_end : {body l₀ l : List ℕ} {j : ℕ} → Writing body l₀ l j → length body / 4 ≤ j → l ≡ over (dates_of (length body / 4) body) l₀
unfolding over
writing_end {body} {l₀} {l} {j} g h =
    let e : j ≡ length (dates_of (length body / 4) body) = le_antisymm g.within h ∙ sym (dates_length (length body / 4) body) in
    g.same ∙ rw e (rw (take-length (dates_of (length body / 4) body)))

pub writing_long : {body l₀ l : List ℕ} {j : ℕ} → Writing body l₀ l j → length l ≡ length l₀
writing_long g = g.long

pub ruleset writing = (writing_start, writing_long, writing_more, writing_end, rules)
