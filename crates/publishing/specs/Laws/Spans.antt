-- The days of the runs are the list, and the import puts a run's days behind those before it.
-- Assumes nothing.
use Rattle.std.specs.Prelude.{ℕ, zero, suc, ◌+◌, ◌-◌, ◌≤◌, ◌<◌, ◌≡◌, refl, Bool, true, false, ◌&&◌, ◌⊎◌, List, [], ◌∷◌, ◌++◌, eqb, leb, ltb, length}
use Rattle.std.proofs.Common.{ap, sym, ◌∙◌, inl, inr, append_assoc, arith}
use borrow.Author.Tests.{eqb-true, eqb-false, lt-ltb, le-ltb, ne_eqb, leb-true}
use Rattle.refusal.specs.Laws.Answers.{both}
use Rattle.calendar.specs.Open.{ascending, closed_ok}
use Rattle.holidays.specs.Laws.Listed.{◌∈◌, Ascending}
use Rattle.holidays.specs.Import.{by_order, insert, add}
use Rattle.publishing.specs.File.{Run, joined, runs_from, runs_of}

-- ---- so many days from a day on
unfoldable pub upward : ℕ → ℕ → List ℕ
upward zero d = []
upward (suc n) d = d ∷ upward n (suc d)

unfoldable pub days_in : List Run → List ℕ
days_in [] = []
days_in (r ∷ rs) = upward (r.past - r.first) r.first ++ days_in rs

upward_one : (n d : ℕ) → upward (suc n) d ≡ upward n d ++ ((d + n) ∷ [])
unfolding upward
upward_one zero d = let e : d + 0 ≡ d = omega arith in ap (λ (k : ℕ). upward 0 d ++ (k ∷ [])) (sym e)
upward_one (suc n) d =
    let e : suc d + n ≡ d + suc n = omega arith in
    ap (λ (ks : List ℕ). d ∷ ks) (upward_one n (suc d) ∙ ap (λ (k : ℕ). upward n (suc d) ++ (k ∷ [])) e)

-- one day more at the end of a run
one_more : (first d : ℕ) → first ≤ d → upward (d + 1 - first) first ≡ upward (d - first) first ++ (d ∷ [])
one_more first d h =
    let e : d + 1 - first ≡ suc (d - first) = omega arith in
    let f : first + (d - first) ≡ d = omega arith in
    ap (λ (k : ℕ). upward k first) e ∙ upward_one (d - first) first ∙ ap (λ (k : ℕ). upward (d - first) first ++ (k ∷ [])) f

one_day : (d : ℕ) → upward (d + 1 - d) d ≡ d ∷ []
unfolding upward
one_day d = let e : d + 1 - d ≡ 1 = omega arith in ap (λ (k : ℕ). upward k d) e

days_behind : (first past : ℕ) (ds : List ℕ) → first ≤ past → days_in (runs_from first past ds) ≡ upward (past - first) first ++ ds
unfolding runs_from days_in joined
days_behind first past [] h = refl
days_behind first past (d ∷ ds) h = go (eqb d past) refl (λ k. days_behind first (d + 1) ds k) (days_behind d (d + 1) ds (omega arith))
  where
    go : (e : Bool) → eqb d past ≡ e → (first ≤ d + 1 → days_in (runs_from first (d + 1) ds) ≡ upward (d + 1 - first) first ++ ds) → days_in (runs_from d (d + 1) ds) ≡ upward (d + 1 - d) d ++ ds → days_in (joined e first past d (λ from. runs_from from (d + 1) ds)) ≡ upward (past - first) first ++ (d ∷ ds)
    go true q on new =
        let e : d ≡ past = eqb-true d past q in
        on (omega arith) ∙ ap (λ (s : List ℕ). s ++ ds) (one_more first d (omega arith)) ∙ append_assoc (upward (d - first) first) (d ∷ []) ds ∙ ap (λ (k : ℕ). upward (k - first) first ++ (d ∷ ds)) e
    go false q on new = ap (λ (s : List ℕ). upward (past - first) first ++ s) (new ∙ ap (λ (s : List ℕ). s ++ ds) (one_day d))

-- the runs have the list's days, and no others
pub runs_days : (list : List ℕ) → days_in (runs_of list) ≡ list
unfolding runs_of days_in
runs_days [] = refl
runs_days (d ∷ ds) = days_behind d (d + 1) ds (omega arith) ∙ ap (λ (s : List ℕ). s ++ ds) (one_day d)

-- ---- each run has a day
abbrev pub SomeDay : List Run → Type 0
SomeDay [] = Unit {0}
SomeDay (r ∷ rs) = (r.first < r.past) × SomeDay rs

some_from : (first past : ℕ) (ds : List ℕ) → first < past → SomeDay (runs_from first past ds)
unfolding runs_from joined
some_from first past [] h = (h, tt)
some_from first past (d ∷ ds) h = go (eqb d past) refl (λ k. some_from first (d + 1) ds k) (some_from d (d + 1) ds (omega arith))
  where
    go : (e : Bool) → eqb d past ≡ e → (first < d + 1 → SomeDay (runs_from first (d + 1) ds)) → SomeDay (runs_from d (d + 1) ds) → SomeDay (joined e first past d (λ from. runs_from from (d + 1) ds))
    go true q on new = let e : d ≡ past = eqb-true d past q in on (omega arith)
    go false q on new = (h, new)

pub some_days : (list : List ℕ) → SomeDay (runs_of list)
unfolding runs_of
some_days [] = tt
some_days (d ∷ ds) = some_from d (d + 1) ds (omega arith)

-- ---- the import's way of adding: behind all that is there
behind_all : (d : ℕ) (xs : List ℕ) (n : ℕ) → ((x : ℕ) → x ∈ xs → x < d) → insert d (xs ++ upward n (suc d)) ≡ xs ++ (d ∷ upward n (suc d))
unfolding insert by_order upward
behind_all d [] zero h = refl
behind_all d [] (suc n) h = let l : d < suc d = omega arith in rw (lt-ltb d (suc d) l)
behind_all d (x ∷ xs) n h =
    go (h x (inl refl)) (behind_all d xs n (λ y i. h y (inr i)))
  where
    go : x < d → insert d (xs ++ upward n (suc d)) ≡ xs ++ (d ∷ upward n (suc d)) → by_order (ltb d x) (eqb d x) d x (xs ++ upward n (suc d)) (λ u. insert d (xs ++ upward n (suc d))) ≡ x ∷ (xs ++ (d ∷ upward n (suc d)))
    go l on =
        let o : x ≤ d = omega arith in
        let ne : (d ≡ x → ⊥) = other l in
        rw (le-ltb d x o, ne_eqb d x ne) (ap (λ (ys : List ℕ). x ∷ ys) on)
      where
        other : x < d → d ≡ x → ⊥
        other k e = omega arith

pub added_behind : (n d : ℕ) (xs : List ℕ) → ((x : ℕ) → x ∈ xs → x < d) → add n d xs ≡ xs ++ upward n d
unfolding add upward
added_behind zero d xs h = sym (nil xs)
  where
    nil : (ys : List ℕ) → ys ++ [] ≡ ys
    nil [] = refl
    nil (y ∷ ys) = ap (λ (s : List ℕ). y ∷ s) (nil ys)
added_behind (suc n) d xs h = ap (insert d) (added_behind n (suc d) xs (λ x i. omega (arith, h x i))) ∙ behind_all d xs n h

-- ---- a closed list ascends, from 1800 to 2399
asc_in : (low high : ℕ) (ds : List ℕ) → ascending low high ds ≡ true → (y : ℕ) → y ∈ ds → (low ≤ y) × (y ≤ high)
unfolding ascending
asc_in low high [] h y i = absurd i
asc_in low high (x ∷ xs) h y i = go (asc_in (x + 1) high xs q.1 y) i
  where
    p : (leb low x ≡ true) × ((leb x high && ascending (x + 1) high xs) ≡ true)
    p = both (leb low x) _ h

    q : (leb x high ≡ true) × (ascending (x + 1) high xs ≡ true)
    q = both (leb x high) _ p.1

    go : (y ∈ xs → (x + 1 ≤ y) × (y ≤ high)) → y ∈ (x ∷ xs) → (low ≤ y) × (y ≤ high)
    go on (inl e) = (omega (arith, leb-true low x p.0), omega (arith, leb-true x high q.0))
    go on (inr j) =
        let r = on j in
        (omega (arith, leb-true low x p.0, r.0), r.1)

asc_ascends : (low high : ℕ) (ds : List ℕ) → ascending low high ds ≡ true → Ascending ds
unfolding ascending
asc_ascends low high [] h = tt
asc_ascends low high (x ∷ xs) h =
    let q = both (leb x high) _ (both (leb low x) _ h).1 in
    (λ d i. omega (arith, (asc_in (x + 1) high xs q.1 d i).0), asc_ascends (x + 1) high xs q.1)

module _ (list : List ℕ) (ok : closed_ok list ≡ true) where
  asc : ascending 657072 876216 list ≡ true
  unfolding closed_ok
  asc = (both (leb (length list) 4096) _ ok).1

  pub closed_few : length list ≤ 4096
  unfolding closed_ok
  closed_few = leb-true (length list) 4096 (both (leb (length list) 4096) _ ok).0

  pub closed_ascends : Ascending list
  closed_ascends = asc_ascends 657072 876216 list asc

  pub closed_within : (y : ℕ) → y ∈ list → (657072 ≤ y) × (y ≤ 876216)
  closed_within y i = asc_in 657072 876216 list asc y i

-- ---- where lists are put together
pub in_second : (xs ys : List ℕ) (y : ℕ) → y ∈ ys → y ∈ (xs ++ ys)
in_second [] ys y i = i
in_second (x ∷ xs) ys y i = inr (in_second xs ys y i)

pub in_first : (xs ys : List ℕ) (y : ℕ) → y ∈ xs → y ∈ (xs ++ ys)
in_first [] ys y i = absurd i
in_first (x ∷ xs) ys y (inl e) = inl e
in_first (x ∷ xs) ys y (inr i) = inr (in_first xs ys y i)

pub before_second : (xs ys : List ℕ) → Ascending (xs ++ ys) → (d : ℕ) → d ∈ ys → (x : ℕ) → x ∈ xs → x < d
before_second [] ys a d i x j = absurd j
before_second (z ∷ xs) ys a d i x (inl e) = omega (arith, a.0 d (in_second xs ys d i))
before_second (z ∷ xs) ys a d i x (inr j) = before_second xs ys a.1 d i x j

pub upward_in : (n d y : ℕ) → d ≤ y → y < d + n → y ∈ upward n d
unfolding upward
upward_in zero d y h l = let bad : ⊥ = omega arith in absurd bad
upward_in (suc n) d y h l = go (eqb y d) refl (upward_in n (suc d) y)
  where
    go : (e : Bool) → eqb y d ≡ e → (suc d ≤ y → y < suc d + n → y ∈ upward n (suc d)) → (y ≡ d) ⊎ (y ∈ upward n (suc d))
    go true q on = inl (eqb-true y d q)
    go false q on =
        let o : ¬ (y ≡ d) = eqb-false y d q in
        inr (on (omega arith) (omega arith))
