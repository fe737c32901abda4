-- Laws for code that adds an event's days one by one, ascending, and counts the new ones.
-- Assumes nothing.
use Rattle.std.specs.Prelude.{ℕ, zero, suc, ◌+◌, ◌≤◌, ◌<◌, ◌≡◌, refl, Bool, true, false, List, [], ◌∷◌, eqb, ltb, length}
use Rattle.std.proofs.Common.{sym, ap, subst, inl, inr, ⊎_elim, arith, eqb-true}
use Rattle.std.proofs.lemmas.Bool.{eqb-false}
use Rattle.holidays.specs.Laws.Listed.{◌∈◌, Ascending, one_list}
use Rattle.holidays.specs.Import.{by_order, insert, add}
use Rattle.holidays.specs.Laws.Set.{insert_in, insert_has, insert_keeps, insert_ascends, add_in, add_has, add_keeps, add_ascends}

-- two ascending lists with the same days are the same
pub same_members : (vs us : List ℕ) → Ascending vs → Ascending us → ((d : ℕ) → d ∈ vs → d ∈ us) → ((d : ℕ) → d ∈ us → d ∈ vs) → vs ≡ us
same_members vs us p q f g =
    one_list {P = λ (d : ℕ). d ∈ vs} (record { only = λ d h. h; all = λ d h. h; ascends = p }) (record { only = g; all = f; ascends = q })

-- a day that is there needs no place, and another one needs one
pub insert_old : (d : ℕ) (xs : List ℕ) → Ascending xs → d ∈ xs → insert d xs ≡ xs
insert_old d xs a h =
    same_members (insert d xs) xs (insert_ascends d xs a) a (λ y i. ⊎_elim (λ (e : y ≡ d). subst (λ (k : ℕ). k ∈ xs) (sym e) h) (λ (j : y ∈ xs). j) (insert_in d xs y i)) (insert_keeps d xs)

pub insert_new : (d : ℕ) (xs : List ℕ) → (d ∈ xs → ⊥) → length (insert d xs) ≡ suc (length xs)
unfolding insert by_order
insert_new d [] new = refl
insert_new d (x ∷ xs) new = go (insert_new d xs (λ i. new (inr i))) (ltb d x) (eqb d x) refl
  where
    go : length (insert d xs) ≡ suc (length xs) → (a e : Bool) → eqb d x ≡ e → length (by_order a e d x xs (λ u. insert d xs)) ≡ suc (suc (length xs))
    go on true e q = refl
    go on false true q = absurd (new (inl (eqb-true d x q)))
    go on false false q = ap suc on

-- the next day behind those added
pub add_next : (n d : ℕ) (xs : List ℕ) → Ascending xs → add (suc n) d xs ≡ insert (d + n) (add n d xs)
add_next n d xs a =
    same_members (add (suc n) d xs) (insert (d + n) (add n d xs)) (add_ascends (suc n) d xs a) (insert_ascends (d + n) (add n d xs) (add_ascends n d xs a)) to from
  where
    last : (y : ℕ) → y ≡ d + n → y ∈ insert (d + n) (add n d xs)
    last y e = subst (λ (k : ℕ). k ∈ insert (d + n) (add n d xs)) (sym e) (insert_has (d + n) (add n d xs))

    one : (y : ℕ) → (d ≤ y) × (y < d + suc n) → (b : Bool) → eqb y (d + n) ≡ b → y ∈ insert (d + n) (add n d xs)
    one y h true e = last y (eqb-true y (d + n) e)
    one y h false e =
        let o : ¬ (y ≡ d + n) = eqb-false y (d + n) e in
        insert_keeps (d + n) (add n d xs) y (add_has n d xs y h.0 (omega arith))

    to : (y : ℕ) → y ∈ add (suc n) d xs → y ∈ insert (d + n) (add n d xs)
    to y h =
        ⊎_elim
        (λ (i : (d ≤ y) × (y < d + suc n)). one y i (eqb y (d + n)) refl)
        (λ (i : y ∈ xs). insert_keeps (d + n) (add n d xs) y (add_keeps n d xs y i))
        (add_in (suc n) d xs y h)

    from : (y : ℕ) → y ∈ insert (d + n) (add n d xs) → y ∈ add (suc n) d xs
    from y h =
        ⊎_elim
        (λ (e : y ≡ d + n). add_has (suc n) d xs y (omega arith) (omega arith))
        (λ (i : y ∈ add n d xs).
        ⊎_elim (λ (j : (d ≤ y) × (y < d + n)). add_has (suc n) d xs y j.0 (omega arith)) (λ (j : y ∈ xs). add_keeps (suc n) d xs y j) (add_in n d xs y i))
        (insert_in (d + n) (add n d xs) y h)

-- more days take no fewer places, so that a list that is full before the last day is full
insert_longer : (d : ℕ) (xs : List ℕ) → length xs ≤ length (insert d xs)
unfolding insert by_order
insert_longer d [] = omega arith
insert_longer d (x ∷ xs) = go (insert_longer d xs) (ltb d x) (eqb d x)
  where
    go : length xs ≤ length (insert d xs) → (a e : Bool) → suc (length xs) ≤ length (by_order a e d x xs (λ u. insert d xs))
    go on true e = omega arith
    go on false true = omega arith
    go on false false = omega arith

pub add_longer : (k n d : ℕ) (xs : List ℕ) → Ascending xs → length (add n d xs) ≤ length (add (k + n) d xs)
add_longer zero n d xs a = let e : 0 + n ≡ n = omega arith in rw e (omega arith)
add_longer (suc k) n d xs a =
    let e : suc k + n ≡ suc (k + n) = omega arith in
    rw e (omega (arith, add_longer k n d xs a, ap length (add_next (k + n) d xs a), insert_longer (d + (k + n)) (add (k + n) d xs)))
