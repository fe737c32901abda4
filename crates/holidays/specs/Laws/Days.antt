-- Laws of the map of days: which days it holds, one more of them, and words passed over.
-- Assumes nothing.
use Rattle.std.specs.Prelude.{ℕ, zero, suc, ◌+◌, ◌-◌, ◌/◌, ◌%◌, ◌^◌, ◌≤◌, ◌<◌, ◌≡◌, Bool, true, false, List, [], ◌∷◌, eqb, ltb, length, get_or, set}
use Rattle.std.proofs.Math.Path.{refl, ap}
use Rattle.std.proofs.Common.{sym, ◌∙◌, subst, inl, inr, ⊎_elim, add-one, add-zero, get_or-set_same, get_or-set_other, eqb-true, ltb-true, ltb-false}
use Rattle.std.proofs.lemmas.Bool.{false≢true, eqb-false}
use native.Mathlib.Omega.{arith}
use Rattle.holidays.specs.Words.{pick}
use Rattle.holidays.specs.Import.{insert, add}
use Rattle.holidays.specs.Laws.Listed.{◌∈◌, Ascending}
use Rattle.holidays.specs.Laws.Set.{insert_in, insert_has, insert_keeps, insert_ascends, add_in, add_has, add_keeps, add_ascends}
use Rattle.holidays.specs.Laws.Places.{same_members}
use Rattle.holidays.specs.Laws.Bits.{bit_put, bit_kept, bit_full, bit_empty}
use Rattle.holidays.specs.Inner.Days.{FIRST, DAYS, bit_of, bit_at, days_from, days_of}

-- ---- the days of bits
pub record Among (n o : ℕ) (map : List ℕ) (d : ℕ) : Type 0 where
  pub low : FIRST + o ≤ d
  pub high : d < FIRST + o + n
  pub bit : bit_at map (d - FIRST) ≡ true

days_among : (n o : ℕ) (map : List ℕ) (d : ℕ) → d ∈ days_from n o map → Among n o map d
unfolding days_from pick
days_among zero o map d h = absurd h
days_among (suc n) o map d h = go (days_among n (suc o) map d) (bit_at map o) refl h
  where
    later : Among n (suc o) map d → Among (suc n) o map d
    later a = record { low = omega (arith, a.low); high = omega (arith, a.high); bit = a.bit }

    here : bit_at map o ≡ true → d ≡ FIRST + o → Among (suc n) o map d
    here b e = let q : d - FIRST ≡ o = omega arith in record { low = omega arith; high = omega arith; bit = ap (bit_at map) q ∙ b }

    go : (d ∈ days_from n (suc o) map → Among n (suc o) map d) → (x : Bool) → bit_at map o ≡ x → d ∈ pick x ((FIRST + o) ∷ days_from n (suc o) map) (days_from n (suc o) map) → Among (suc n) o map d
    go on true b (inl e) = here b e
    go on true b (inr i) = later (on i)
    go on false b i = later (on i)

days_have : (n o : ℕ) (map : List ℕ) (d : ℕ) → Among n o map d → d ∈ days_from n o map
unfolding days_from pick
days_have zero o map d a = let bad : ⊥ = omega (arith, a.low, a.high) in absurd bad
days_have (suc n) o map d a = go (days_have n (suc o) map d) (bit_at map o) refl (eqb d (FIRST + o)) refl
  where
    next : eqb d (FIRST + o) ≡ false → Among n (suc o) map d
    next e = let q : ¬ (d ≡ FIRST + o) = eqb-false d (FIRST + o) e in record { low = omega (arith, a.low); high = omega (arith, a.high); bit = a.bit }

    never : d ≡ FIRST + o → bit_at map o ≡ false → ⊥
    never e b = let q : d - FIRST ≡ o = omega arith in false≢true (sym b ∙ ap (bit_at map) (sym q) ∙ a.bit)

    go : (Among n (suc o) map d → d ∈ days_from n (suc o) map) → (x : Bool) → bit_at map o ≡ x → (y : Bool) → eqb d (FIRST + o) ≡ y → d ∈ pick x ((FIRST + o) ∷ days_from n (suc o) map) (days_from n (suc o) map)
    go on true b true e = inl (eqb-true d (FIRST + o) e)
    go on true b false e = inr (on (next e))
    go on false b true e = absurd (never (eqb-true d (FIRST + o) e) b)
    go on false b false e = on (next e)

days_ascend : (n o : ℕ) (map : List ℕ) → Ascending (days_from n o map)
unfolding days_from pick
days_ascend zero o map = tt
days_ascend (suc n) o map = go (days_ascend n (suc o) map) (bit_at map o)
  where
    go : Ascending (days_from n (suc o) map) → (x : Bool) → Ascending (pick x ((FIRST + o) ∷ days_from n (suc o) map) (days_from n (suc o) map))
    go on true = (λ d i. let a = days_among n (suc o) map d i in omega (arith, a.low), on)
    go on false = on

pub map_ascends : (map : List ℕ) → Ascending (days_of map)
unfolding days_of
map_ascends map = days_ascend DAYS 0 map

map_in : (map : List ℕ) (d : ℕ) → d ∈ days_of map → Among DAYS 0 map d
unfolding days_of
map_in map d h = days_among DAYS 0 map d h

map_has : (map : List ℕ) (d : ℕ) → Among DAYS 0 map d → d ∈ days_of map
unfolding days_of
map_has map d a = days_have DAYS 0 map d a

pub bit_in : (map : List ℕ) (o : ℕ) → o < DAYS → bit_at map o ≡ true → FIRST + o ∈ days_of map
bit_in map o h b =
    let q : FIRST + o - FIRST ≡ o = omega arith in
    map_has map (FIRST + o) (record { low = omega arith; high = omega arith; bit = ap (bit_at map) q ∙ b })

pub bit_out : (map : List ℕ) (o : ℕ) → bit_at map o ≡ false → FIRST + o ∈ days_of map → ⊥
bit_out map o b h =
    let q : FIRST + o - FIRST ≡ o = omega arith in
    false≢true (sym b ∙ ap (bit_at map) (sym q) ∙ (map_in map (FIRST + o) h).bit)

-- ---- one more bit
module _ (map : List ℕ) (o : ℕ) (long : o / 32 < length map) (clear : bit_at map o ≡ false) where
  abbrev word : ℕ
  word = get_or map (o / 32) 0

  abbrev put_in : List ℕ
  put_in = set map (o / 32) (word + 2 ^ (o % 32))

  put_here : bit_at put_in o ≡ true
  unfolding bit_at
  put_here = ap (λ (m : ℕ). bit_of m (o % 32)) (get_or-set_same map (o / 32) (word + 2 ^ (o % 32)) 0 long) ∙ bit_put word (o % 32) clear

  put_there : (p : ℕ) → (p ≡ o → ⊥) → bit_at put_in p ≡ bit_at map p
  unfolding bit_at
  put_there p n = go (eqb (p / 32) (o / 32)) refl
    where
      same_word : p / 32 ≡ o / 32 → bit_of (get_or put_in (p / 32) 0) (p % 32) ≡ bit_of (get_or map (p / 32) 0) (p % 32)
      same_word e =
          ap (λ (i : ℕ). bit_of (get_or put_in i 0) (p % 32)) e
          ∙ ap (λ (m : ℕ). bit_of m (p % 32)) (get_or-set_same map (o / 32) (word + 2 ^ (o % 32)) 0 long)
          ∙ bit_kept word (o % 32) (p % 32) clear (λ f. n (apart e f))
          ∙ ap (λ (i : ℕ). bit_of (get_or map i 0) (p % 32)) (sym e)
        where
          apart : p / 32 ≡ o / 32 → p % 32 ≡ o % 32 → p ≡ o
          apart e f = omega arith

      go : (x : Bool) → eqb (p / 32) (o / 32) ≡ x → bit_of (get_or put_in (p / 32) 0) (p % 32) ≡ bit_of (get_or map (p / 32) 0) (p % 32)
      go true e = same_word (eqb-true (p / 32) (o / 32) e)
      go false e = ap (λ (m : ℕ). bit_of m (p % 32)) (get_or-set_other map (o / 32) (p / 32) (word + 2 ^ (o % 32)) 0 (eqb-false (p / 32) (o / 32) e))

  pub put_days : o < DAYS → days_of put_in ≡ insert (FIRST + o) (days_of map)
  put_days h = same_members (days_of put_in) (insert (FIRST + o) (days_of map)) (map_ascends put_in) (insert_ascends (FIRST + o) (days_of map) (map_ascends map)) to from
    where
      old : (d : ℕ) → Among DAYS 0 put_in d → (d - FIRST ≡ o → ⊥) → d ∈ days_of map
      old d a n = map_has map d (record { low = a.low; high = a.high; bit = sym (put_there (d - FIRST) n) ∙ a.bit })

      to : (d : ℕ) → d ∈ days_of put_in → d ∈ insert (FIRST + o) (days_of map)
      to d i = go (eqb (d - FIRST) o) refl
        where
          a : Among DAYS 0 put_in d
          a = map_in put_in d i

          go : (x : Bool) → eqb (d - FIRST) o ≡ x → d ∈ insert (FIRST + o) (days_of map)
          go true e =
              let q : d - FIRST ≡ o = eqb-true (d - FIRST) o e in
              let r : FIRST + o ≡ d = omega (arith, a.low) in
              subst (λ (k : ℕ). k ∈ insert (FIRST + o) (days_of map)) r (insert_has (FIRST + o) (days_of map))
          go false e = insert_keeps (FIRST + o) (days_of map) d (old d a (eqb-false (d - FIRST) o e))

      from : (d : ℕ) → d ∈ insert (FIRST + o) (days_of map) → d ∈ days_of put_in
      from d i = ⊎_elim (λ (e : d ≡ FIRST + o). new e) (λ (j : d ∈ days_of map). kept j) (insert_in (FIRST + o) (days_of map) d i)
        where
          new : d ≡ FIRST + o → d ∈ days_of put_in
          new e = subst (λ (k : ℕ). k ∈ days_of put_in) (sym e) (bit_in put_in o h put_here)

          kept : d ∈ days_of map → d ∈ days_of put_in
          kept j =
              let a = map_in map d j in
              map_has put_in d (record { low = a.low; high = a.high; bit = put_there (d - FIRST) (λ e. false≢true (sym clear ∙ ap (bit_at map) (sym e) ∙ a.bit)) ∙ a.bit })

-- ---- whole words
module _ (o j : ℕ) (start : o % 32 ≡ 0) (h : j < 32) where
  in_word : (o + j) / 32 ≡ o / 32
  in_word = omega arith

  at_bit : (o + j) % 32 ≡ j
  at_bit = omega arith

  word_bit : (map : List ℕ) → bit_at map (o + j) ≡ bit_of (get_or map (o / 32) 0) j
  unfolding bit_at
  word_bit map = ap (λ (i : ℕ). bit_of (get_or map i 0) ((o + j) % 32)) in_word ∙ ap (bit_of (get_or map (o / 32) 0)) at_bit

  pub full_bits : (map : List ℕ) → get_or map (o / 32) 0 ≡ 4294967295 → bit_at map (o + j) ≡ true
  full_bits map e = word_bit map ∙ ap (λ (m : ℕ). bit_of m j) e ∙ bit_full j h

  pub empty_bits : (map : List ℕ) → get_or map (o / 32) 0 ≡ 0 → bit_at map (o + j) ≡ false
  empty_bits map e = word_bit map ∙ ap (λ (m : ℕ). bit_of m j) e ∙ bit_empty j

-- ---- days that are there already
pub add_there : (k n d : ℕ) (xs : List ℕ) → Ascending xs → ((j : ℕ) → j < k → d + n + j ∈ add n d xs) → add (n + k) d xs ≡ add n d xs
add_there k n d xs a h = same_members (add (n + k) d xs) (add n d xs) (add_ascends (n + k) d xs a) (add_ascends n d xs a) to from
  where
    there : (y : ℕ) → d + n ≤ y → y < d + (n + k) → y ∈ add n d xs
    there y l r =
        let q : d + n + (y - (d + n)) ≡ y = omega arith in
        subst (λ (z : ℕ). z ∈ add n d xs) q (h (y - (d + n)) (omega arith))

    to : (y : ℕ) → y ∈ add (n + k) d xs → y ∈ add n d xs
    to y i =
        ⊎_elim
        (λ (p : (d ≤ y) × (y < d + (n + k))). go p (ltb y (d + n)) refl)
        (λ (j : y ∈ xs). add_keeps n d xs y j)
        (add_in (n + k) d xs y i)
      where
        go : (d ≤ y) × (y < d + (n + k)) → (x : Bool) → ltb y (d + n) ≡ x → y ∈ add n d xs
        go p true e = add_has n d xs y p.0 (ltb-true y (d + n) e)
        go p false e = there y (ltb-false y (d + n) e) p.1

    from : (y : ℕ) → y ∈ add n d xs → y ∈ add (n + k) d xs
    from y i =
        ⊎_elim
        (λ (p : (d ≤ y) × (y < d + n)). add_has (n + k) d xs y p.0 (omega arith))
        (λ (j : y ∈ xs). add_keeps (n + k) d xs y j)
        (add_in n d xs y i)

-- ---- the days from a bit on
pub day_here : (n o : ℕ) (map : List ℕ) → 0 < n → bit_at map o ≡ true → days_from n o map ≡ (FIRST + o) ∷ days_from (n - 1) (o + 1) map
unfolding days_from pick
day_here zero o map h b = let bad : ⊥ = omega arith in absurd bad
day_here (suc n) o map h b =
    let q : n ≡ suc n - 1 = omega arith in
    rw b (ap (λ (k : ℕ). (FIRST + o) ∷ days_from k (suc o) map) q ∙ ap (λ (k : ℕ). (FIRST + o) ∷ days_from (suc n - 1) k map) (sym (add-one o)))

pub no_day_here : (n o : ℕ) (map : List ℕ) → 0 < n → bit_at map o ≡ false → days_from n o map ≡ days_from (n - 1) (o + 1) map
unfolding days_from pick
no_day_here zero o map h b = let bad : ⊥ = omega arith in absurd bad
no_day_here (suc n) o map h b =
    let q : n ≡ suc n - 1 = omega arith in
    rw b (ap (λ (k : ℕ). days_from k (suc o) map) q ∙ ap (λ (k : ℕ). days_from (suc n - 1) k map) (sym (add-one o)))

pub no_days : (k n o : ℕ) (map : List ℕ) → ((j : ℕ) → j < k → bit_at map (o + j) ≡ false) → days_from n o map ≡ days_from (n - k) (o + k) map
unfolding days_from
no_days zero n o map h =
    let q : n ≡ n - 0 = omega arith in
    ap (λ (m : ℕ). days_from m o map) q ∙ ap (λ (m : ℕ). days_from (n - 0) m map) (sym (add-zero o))
no_days (suc k) zero o map h = let q : 0 ≡ 0 - suc k = omega arith in ap (λ (m : ℕ). days_from m (o + suc k) map) q
no_days (suc k) (suc n) o map h =
    let b : bit_at map o ≡ false = ap (bit_at map) (sym (add-zero o)) ∙ h 0 (omega arith) in
    let q : suc n - 1 - k ≡ suc n - suc k = omega arith in
    let r : o + 1 + k ≡ o + suc k = omega arith in
    no_day_here (suc n) o map (omega arith) b
    ∙ no_days k (suc n - 1) (o + 1) map (λ j l. let s : o + 1 + j ≡ o + suc j = omega arith in ap (bit_at map) s ∙ h (suc j) (omega arith))
    ∙ ap (λ (m : ℕ). days_from m (o + 1 + k) map) q
    ∙ ap (λ (m : ℕ). days_from (suc n - suc k) m map) r

-- a map of zeros has no days
pub none_set : (n o : ℕ) (map : List ℕ) → ((i : ℕ) → get_or map i 0 ≡ 0) → days_from n o map ≡ []
unfolding days_from bit_at
none_set n o map h =
    let q : n - n ≡ 0 = omega arith in
    no_days n n o map (λ j l. zero_bit (o + j)) ∙ ap (λ (m : ℕ). days_from m (o + n) map) q
  where
    zero_bit : (p : ℕ) → bit_at map p ≡ false
    zero_bit p = ap (λ (m : ℕ). bit_of m (p % 32)) (h (p / 32)) ∙ bit_empty (p % 32)
