-- Paid dates beside the generated ones: filled in by parts, they are what 01's adjustments make of the dates.
-- Assumes nothing.
use Prim.Native.Nat.{ℕ, suc, ◌+◌, ◌-◌, ◌≤◌, ◌<◌}
use Rattle.std.specs.Prelude.{◌≡◌, Bool, get_or}
use Rattle.std.proofs.Math.Path.{refl, sym, ap, fun_ext}
use Rattle.std.proofs.Common.{◌∙◌, length-drop, drop-drop, take-add, length-take-le}
use Rattle.std.proofs.Math.Bool.{false}
use mathlib.Core.List.{List, [], ◌∷◌, ◌++◌, append_assoc}
use native.Mathlib.Omega.{arith}
use Rattle.std.proofs.Math.Dec.{eqb}
use borrow.Author.Tests.{ne_eqb}
use Rattle.std.proofs.Math.ListN.{length, set, take, drop, length-append, take-append-drop}
use Rattle.std.proofs.Math.Seq.{drop-cons, take-append_seam, drop-append_seam, drop-append-add, take_at, drop_at}
use Rattle.std.proofs.lemmas.List.{set_split}
use Rattle.refusal.specs.Answer.{Answer, given, refused, then}
use Rattle.steps.specs.declared.Request.{Request}
use Rattle.steps.specs.Finish.{each, moved, on_last, on_middle, first_move, last_move, middle_move, seed_at_end, adjustments}
use Rattle.steps.specs.Laws.Parts.{on_first_lem, on_last_lem, on_middle_lem, on_no_middle, as_many}
use Rattle.finish.specs.Paying.{pay_between, PaidAlready, pay_last_of, pay_last, pay_middle, paying}

module _ (f : ℕ → Answer ℕ) where
  -- ---- lists given in parts
  pay_parts : (xs ys zs xs' ys' zs' : List ℕ) (a b : ℕ) → length xs ≡ length xs' → length ys ≡ length ys' → a ≡ length xs → b ≡ length xs + length ys → pay_between f a b (xs ++ (ys ++ zs)) (xs' ++ (ys' ++ zs')) ≡ then (each f ys) (λ us. given (xs' ++ (us ++ zs')))
  unfolding pay_between
  pay_parts xs ys zs xs' ys' zs' a b u v e h =
      let k : b - a ≡ length ys = omega arith in
      let d : drop a (xs ++ (ys ++ zs)) ≡ ys ++ zs = drop_at xs (ys ++ zs) a (sym e) in
      let t : take a (xs' ++ (ys' ++ zs')) ≡ xs' = take_at xs' (ys' ++ zs') a (omega arith) in
      let w : b ≡ length xs' + length ys' = omega arith in
      let r : drop b (xs' ++ (ys' ++ zs')) ≡ zs' = ap (λ (n : ℕ). drop n (xs' ++ (ys' ++ zs'))) w ∙ drop-append-add xs' (ys' ++ zs') (length ys') ∙ drop-append_seam ys' zs' in
      rw (d, t, r, k, take-append_seam ys zs) refl

  each_one : (x : ℕ) (g : List ℕ → Answer (List ℕ)) → then (each f (x ∷ [])) g ≡ then (f x) (λ y. g (y ∷ []))
  unfolding each then
  each_one x g = by (f x)
    where
      by : (a : Answer ℕ) → then (then a (λ y. then (given []) (λ ys. given (y ∷ ys)))) g ≡ then a (λ y. g (y ∷ []))
      by (given y) = refl
      by (refused n) = refl

  pay_first : (x : ℕ) (xs : List ℕ) (z : ℕ) (zs : List ℕ) → pay_between f 0 1 (x ∷ xs) (z ∷ zs) ≡ then (f x) (λ y. given (y ∷ zs))
  pay_first x xs z zs = pay_parts [] (x ∷ []) xs [] (z ∷ []) zs 0 1 refl refl refl refl ∙ each_one x (λ us. given (us ++ zs))

  last_part_paid : (xs : List ℕ) (t : ℕ) (zs : List ℕ) (w : ℕ) → length xs ≡ length zs → pay_between f (length (xs ++ (t ∷ [])) - 1) (length (xs ++ (t ∷ []))) (xs ++ (t ∷ [])) (zs ++ (w ∷ [])) ≡ then (f t) (λ u. given (zs ++ (u ∷ [])))
  last_part_paid xs t zs w e =
      let n = length-append xs (t ∷ []) in
      pay_parts xs (t ∷ []) [] zs (w ∷ []) [] (length (xs ++ (t ∷ [])) - 1) (length (xs ++ (t ∷ []))) e refl (omega (arith, n)) (omega (arith, n)) ∙ each_one t (λ us. given (zs ++ (us ++ [])))

  -- one date
  pub pay_one : (ds ps : List ℕ) (at : ℕ) → at < length ds → length ds ≡ length ps → pay_between f at (at + 1) ds ps ≡ then (f (get_or ds at 0)) (λ y. given (set ps at y))
  unfolding pay_between
  pay_one ds ps at h even =
      let k : at + 1 - at ≡ 1 = omega arith in
      let n : at + 1 ≡ suc at = omega arith in
      let one : (y : ℕ) → take at ps ++ (y ∷ drop (suc at) ps) ≡ set ps at y = λ y. sym (set_split ps at y (omega arith)) in
      rw (k, n, drop-cons ds at 0 h) (each_one (get_or ds at 0) (λ ys. given (take at ps ++ (ys ++ drop (suc at) ps))) ∙ ap (then (f (get_or ds at 0))) (fun_ext (λ y. ap given (one y))))

  filled : (ds ps : List ℕ) (a b : ℕ) (xs : List ℕ) → each f (take (b - a) (drop a ds)) ≡ given xs → pay_between f a b ds ps ≡ given (take a ps ++ (xs ++ drop b ps))
  unfolding pay_between then
  filled ds ps a b xs e = rw e refl

  unfilled : (ds ps : List ℕ) (a b n : ℕ) → each f (take (b - a) (drop a ds)) ≡ refused n → pay_between f a b ds ps ≡ refused n
  unfolding pay_between then
  unfilled ds ps a b n e = rw e refl

  each_append : (xs ys : List ℕ) → each f (xs ++ ys) ≡ then (each f xs) (λ us. then (each f ys) (λ vs. given (us ++ vs)))
  unfolding each then
  each_append [] ys = by (each f ys)
    where
      by : (a : Answer (List ℕ)) → a ≡ then a (λ vs. given vs)
      by (given vs) = refl
      by (refused n) = refl
  each_append (x ∷ xs) ys = rw (each_append xs ys) (head (f x))
    where
      rest : (y : ℕ) (a b : Answer (List ℕ)) → then (then a (λ us. then b (λ vs. given (us ++ vs)))) (λ zs. given (y ∷ zs)) ≡ then (then a (λ us. given (y ∷ us))) (λ us. then b (λ vs. given (us ++ vs)))
      rest y (given us) (given vs) = refl
      rest y (given us) (refused n) = refl
      rest y (refused n) b = refl

      head : (a : Answer ℕ) → then a (λ y. then (then (each f xs) (λ us. then (each f ys) (λ vs. given (us ++ vs)))) (λ zs. given (y ∷ zs))) ≡ then (then a (λ y. then (each f xs) (λ us. given (y ∷ us)))) (λ us. then (each f ys) (λ vs. given (us ++ vs)))
      head (given y) = rest y (each f xs) (each f ys)
      head (refused n) = refl

  -- ---- one part after another
  module _ (ds ps : List ℕ) (a b c : ℕ) (ab : a ≤ b) (bc : b ≤ c) (fits : c ≤ length ds) (even : length ds ≡ length ps) where
    cut : take (c - a) (drop a ds) ≡ take (b - a) (drop a ds) ++ take (c - b) (drop b ds)
    cut =
        let k : c - a ≡ (b - a) + (c - b) = omega arith in
        let m : a + (b - a) ≡ b = omega arith in
        ap (λ (n : ℕ). take n (drop a ds)) k ∙ take-add (b - a) (c - b) (drop a ds) ∙ ap (λ (l : List ℕ). take (b - a) (drop a ds) ++ take (c - b) l) (drop-drop (b - a) a ds ∙ ap (λ (n : ℕ). drop n ds) m)

    module _ (xs : List ℕ) (many : length xs ≡ b - a) where
      size_a : length (take a ps) ≡ a
      size_a = length-take-le a ps (omega arith)

      size_b : length (take a ps ++ xs) ≡ b
      size_b = length-append (take a ps) xs ∙ omega (arith, size_a)

      taken : take b (take a ps ++ (xs ++ drop b ps)) ≡ take a ps ++ xs
      taken = sym (ap (take b) (append_assoc (take a ps) xs (drop b ps))) ∙ take_at (take a ps ++ xs) (drop b ps) b size_b

      dropped_b : drop b (take a ps ++ (xs ++ drop b ps)) ≡ drop b ps
      dropped_b = sym (ap (drop b) (append_assoc (take a ps) xs (drop b ps))) ∙ drop_at (take a ps ++ xs) (drop b ps) b size_b

      dropped_c : drop c (take a ps ++ (xs ++ drop b ps)) ≡ drop c ps
      dropped_c =
          let k : b + (c - b) ≡ c = omega arith in
          ap (λ (m : ℕ). drop m (take a ps ++ (xs ++ drop b ps))) (sym k) ∙ sym (drop-drop (c - b) b (take a ps ++ (xs ++ drop b ps))) ∙ ap (drop (c - b)) dropped_b ∙ drop-drop (c - b) b ps ∙ ap (λ (m : ℕ). drop m ps) k

      filled_size : length (take a ps ++ (xs ++ drop b ps)) ≡ length ps
      filled_size = length-append (take a ps) (xs ++ drop b ps) ∙ rw (length-append xs (drop b ps), length-drop b ps, size_a, many) (omega arith)

    as_cut : (xs : List ℕ) → each f (take (b - a) (drop a ds)) ≡ given xs → length xs ≡ b - a
    as_cut xs e = as_many f (take (b - a) (drop a ds)) xs e ∙ length-take-le (b - a) (drop a ds) (omega (arith, length-drop a ds))

    glue : pay_between f a c ds ps ≡ then (pay_between f a b ds ps) (pay_between f b c ds)
    unfolding pay_between then
    glue = rw (cut, each_append (take (b - a) (drop a ds)) (take (c - b) (drop b ds))) (first (each f (take (b - a) (drop a ds))) refl)
      where
        second : (xs : List ℕ) → length xs ≡ b - a → (o : Answer (List ℕ)) → then (then o (λ vs. given (xs ++ vs))) (λ ys. given (take a ps ++ (ys ++ drop c ps))) ≡ then o (λ ys. given (take b (take a ps ++ (xs ++ drop b ps)) ++ (ys ++ drop c (take a ps ++ (xs ++ drop b ps)))))
        second xs many (given vs) =
            rw (taken xs many, dropped_c xs many)
            (ap given (ap (λ (l : List ℕ). take a ps ++ l) (append_assoc xs vs (drop c ps)) ∙ sym (append_assoc (take a ps) xs (vs ++ drop c ps))))
        second xs many (refused n) = refl

        first : (o : Answer (List ℕ)) → each f (take (b - a) (drop a ds)) ≡ o → then (then o (λ us. then (each f (take (c - b) (drop b ds))) (λ vs. given (us ++ vs)))) (λ ys. given (take a ps ++ (ys ++ drop c ps))) ≡ then (then o (λ ys. given (take a ps ++ (ys ++ drop b ps)))) (λ ps₁. then (each f (take (c - b) (drop b ds))) (λ ys. given (take b ps₁ ++ (ys ++ drop c ps₁))))
        first (given xs) e = second xs (as_cut xs e) (each f (take (c - b) (drop b ds)))
        first (refused n) e = refl

    -- a part that is paid already
    pub paid_stays : PaidAlready f b c ds ps → pay_between f b c ds ps ≡ given ps
    unfolding pay_between then
    paid_stays p =
        let k : b + (c - b) ≡ c = omega arith in
        let t : take (c - b) (drop b ps) ++ drop c ps ≡ drop b ps = sym (ap (λ (l : List ℕ). take (c - b) (drop b ps) ++ l) (drop-drop (c - b) b ps ∙ ap (λ (n : ℕ). drop n ps) k)) ∙ take-append-drop (c - b) (drop b ps) in
        rw p.so (ap given (ap (λ (l : List ℕ). take b ps ++ l) t ∙ take-append-drop b ps))

    -- it stays paid while an earlier part is filled in
    paid_through : (xs : List ℕ) → each f (take (b - a) (drop a ds)) ≡ given xs → PaidAlready f b c ds ps → PaidAlready f b c ds (take a ps ++ (xs ++ drop b ps))
    paid_through xs e p =
        record { so = p.so ∙ ap (λ (l : List ℕ). given (take (c - b) l)) (sym (dropped_b xs (as_cut xs e))) }

  -- what is left when some in the middle are paid
  pub pay_around : (ds ps : List ℕ) (a b c d : ℕ) → a ≤ b → b ≤ c → c ≤ d → d ≤ length ds → length ds ≡ length ps → PaidAlready f b c ds ps → pay_between f a d ds ps ≡ then (pay_between f a b ds ps) (pay_between f c d ds)
  unfolding then
  pay_around ds ps a b c d ab bc cd fits even p =
      glue ds ps a b d ab (omega arith) fits even ∙ by (each f (take (b - a) (drop a ds))) refl
    where
      around : (xs : List ℕ) → each f (take (b - a) (drop a ds)) ≡ given xs → pay_between f b d ds (take a ps ++ (xs ++ drop b ps)) ≡ pay_between f c d ds (take a ps ++ (xs ++ drop b ps))
      around xs e =
          let size = filled_size ds ps a b c ab bc (omega arith) even xs (as_cut ds ps a b c ab bc (omega arith) even xs e) in
          let stays = paid_stays ds (take a ps ++ (xs ++ drop b ps)) b b c (omega arith) bc (omega arith) (even ∙ sym size) (paid_through ds ps a b c ab bc (omega arith) even xs e p) in
          glue ds (take a ps ++ (xs ++ drop b ps)) b c d bc cd fits (even ∙ sym size) ∙ rw stays refl

      by : (o : Answer (List ℕ)) → each f (take (b - a) (drop a ds)) ≡ o → then (pay_between f a b ds ps) (pay_between f b d ds) ≡ then (pay_between f a b ds ps) (pay_between f c d ds)
      by (given xs) e = rw (filled ds ps a b xs e) (around xs e)
      by (refused n) e = rw (unfilled ds ps a b n e) refl

-- ---- all of it
record Ends (l : List ℕ) : Type 0 where
  first : ℕ
  middle : List ℕ
  last : ℕ
  so : l ≡ first ∷ (middle ++ (last ∷ []))

ends_of : (x y : ℕ) (l : List ℕ) → Ends (x ∷ (y ∷ l))
ends_of x y [] = record { first = x; middle = []; last = y; so = refl }
ends_of x y (z ∷ l) =
    let e = ends_of y z l in
    record { first = x; middle = e.first ∷ e.middle; last = e.last; so = ap (λ (k : List ℕ). x ∷ k) e.so }

module _ (q : Request) (closed : List ℕ) (seed : ℕ) where
  abbrev F : ℕ → Answer ℕ
  F = moved q.mask closed (first_move q)

  abbrev L : ℕ → Answer ℕ
  L = moved q.mask closed (last_move q)

  abbrev M : Bool → ℕ → Answer ℕ
  M end = moved q.mask closed (middle_move end q.convention)

  -- the seed's test, and then the middle dates
  abbrev rest : List ℕ → List ℕ → Answer (List ℕ)
  rest ds ps = then (seed_at_end q.monthend q.mask closed seed) (λ end. pay_between (M end) 1 (1 + (length ds - 2)) ds ps)

  abbrev rest₀ : List ℕ → Answer (List ℕ)
  rest₀ ds = then (seed_at_end q.monthend q.mask closed seed) (λ end. on_middle (M end) ds)

  -- ---- one date
  no_middle : (x u : ℕ) → rest (x ∷ []) (u ∷ []) ≡ rest₀ (u ∷ [])
  unfolding then pay_between each
  no_middle x u = by (seed_at_end q.monthend q.mask closed seed)
    where
      by : (s : Answer Bool) → then s (λ end. given (u ∷ [])) ≡ then s (λ end. on_middle (M end) (u ∷ []))
      by (given end) = sym (on_no_middle (M end) u)
      by (refused n) = refl

  one_last : (x y : ℕ) → then (on_last L (y ∷ [])) (rest (x ∷ [])) ≡ then (on_last L (y ∷ [])) rest₀
  unfolding then
  one_last x y = rw (on_last_lem L [] y) (by (L y))
    where
      by : (o : Answer ℕ) → then (then o (λ u. given (u ∷ []))) (rest (x ∷ [])) ≡ then (then o (λ u. given (u ∷ []))) rest₀
      by (given u) = no_middle x u
      by (refused n) = refl

  one_date : (x z : ℕ) → paying q closed seed (x ∷ []) (z ∷ []) ≡ adjustments q closed seed (x ∷ [])
  unfolding paying pay_last pay_last_of pay_middle adjustments then
  one_date x z = rw (on_first_lem F x [], pay_first F x [] z []) (by (F x))
    where
      by : (o : Answer ℕ) → then (then o (λ y. given (y ∷ []))) (λ ps. then (on_last L ps) (rest (x ∷ []))) ≡ then (then o (λ y. given (y ∷ []))) (λ ds. then (on_last L ds) rest₀)
      by (given y) = one_last x y
      by (refused n) = refl

  -- ---- two dates and more
  module _ (x t z w : ℕ) (ds ps : List ℕ) (even : length ds ≡ length ps) where
    many_middle : (y u : ℕ) → rest (x ∷ (ds ++ (t ∷ []))) (y ∷ (ps ++ (u ∷ []))) ≡ rest₀ (y ∷ (ds ++ (u ∷ [])))
    unfolding then
    many_middle y u = by (seed_at_end q.monthend q.mask closed seed)
      where
        by : (s : Answer Bool) → then s (λ end. pay_between (M end) 1 (1 + (length (x ∷ (ds ++ (t ∷ []))) - 2)) (x ∷ (ds ++ (t ∷ []))) (y ∷ (ps ++ (u ∷ [])))) ≡ then s (λ end. on_middle (M end) (y ∷ (ds ++ (u ∷ []))))
        by (given end) =
            pay_parts (M end) (x ∷ []) ds (t ∷ []) (y ∷ []) ps (u ∷ []) 1 (1 + (length (x ∷ (ds ++ (t ∷ []))) - 2)) refl even refl (omega (arith, length-append ds (t ∷ []))) ∙ sym (on_middle_lem (M end) y ds u)
        by (refused n) = refl

    many_last : (y : ℕ) → then (pay_between L (length (x ∷ (ds ++ (t ∷ []))) - 1) (length (x ∷ (ds ++ (t ∷ [])))) (x ∷ (ds ++ (t ∷ []))) (y ∷ (ps ++ (w ∷ [])))) (rest (x ∷ (ds ++ (t ∷ [])))) ≡ then (on_last L (y ∷ (ds ++ (t ∷ [])))) rest₀
    unfolding then
    many_last y =
        rw (last_part_paid L (x ∷ ds) t (y ∷ ps) w (ap suc even), on_last_lem L (y ∷ ds) t) (by (L t))
      where
        by : (o : Answer ℕ) → then (then o (λ u. given (y ∷ (ps ++ (u ∷ []))))) (rest (x ∷ (ds ++ (t ∷ [])))) ≡ then (then o (λ u. given (y ∷ (ds ++ (u ∷ []))))) rest₀
        by (given u) = many_middle y u
        by (refused n) = refl

    many_last_of : (y : ℕ) → then (pay_last_of false q closed (x ∷ (ds ++ (t ∷ []))) (y ∷ (ps ++ (w ∷ [])))) (rest (x ∷ (ds ++ (t ∷ [])))) ≡ then (on_last L (y ∷ (ds ++ (t ∷ [])))) rest₀
    unfolding pay_last_of
    many_last_of y = many_last y

    many_dates : paying q closed seed (x ∷ (ds ++ (t ∷ []))) (z ∷ (ps ++ (w ∷ []))) ≡ adjustments q closed seed (x ∷ (ds ++ (t ∷ [])))
    unfolding paying pay_last pay_middle adjustments then
    many_dates =
        let two : eqb (length (x ∷ (ds ++ (t ∷ [])))) 1 ≡ false = ne_eqb _ _ (λ (e : length (x ∷ (ds ++ (t ∷ []))) ≡ 1). omega (arith, length-append ds (t ∷ []))) in
        rw (on_first_lem F x (ds ++ (t ∷ [])), pay_first F x (ds ++ (t ∷ [])) z (ps ++ (w ∷ [])), two) (by (F x))
      where
        by : (o : Answer ℕ) → then (then o (λ y. given (y ∷ (ps ++ (w ∷ []))))) (λ ps₁. then (pay_last_of false q closed (x ∷ (ds ++ (t ∷ []))) ps₁) (rest (x ∷ (ds ++ (t ∷ []))))) ≡ then (then o (λ y. given (y ∷ (ds ++ (t ∷ []))))) (λ ds₁. then (on_last L ds₁) rest₀)
        by (given y) = many_last_of y
        by (refused n) = refl

  -- paid dates filled in beside the dates, whatever was there before, are 01's adjustments
  pub paying_is : (ds ps : List ℕ) → 1 ≤ length ds → length ds ≡ length ps → paying q closed seed ds ps ≡ adjustments q closed seed ds
  paying_is [] ps some even = let bad : ⊥ = omega arith in absurd bad
  paying_is (x ∷ []) [] some even = let bad : ⊥ = omega arith in absurd bad
  paying_is (x ∷ []) (z ∷ []) some even = one_date x z
  paying_is (x ∷ []) (z ∷ w ∷ ps) some even = let bad : ⊥ = omega arith in absurd bad
  paying_is (x ∷ y ∷ ds) [] some even = let bad : ⊥ = omega arith in absurd bad
  paying_is (x ∷ y ∷ ds) (z ∷ []) some even = let bad : ⊥ = omega arith in absurd bad
  paying_is (x ∷ y ∷ ds) (z ∷ w ∷ ps) some even =
      let d = ends_of x y ds in
      let p = ends_of z w ps in
      let a = ap length d.so ∙ ap suc (length-append d.middle (d.last ∷ [])) in
      let b = ap length p.so ∙ ap suc (length-append p.middle (p.last ∷ [])) in
      rw (d.so, p.so) (many_dates d.first d.last p.first p.last d.middle p.middle (omega (arith, a, b)))
