-- What moves the first date, the last one and the middle ones, said of a list that is given in these parts.
-- Assumes nothing.
use Prim.Native.Nat.{ℕ, suc, ◌+◌, ◌-◌, ◌≤◌}
use Rattle.std.specs.Prelude.{◌≡◌, take, drop}
use Rattle.std.proofs.Math.Path.{refl, ap}
use Rattle.std.proofs.Common.{sym, ◌∙◌, take-append-drop, drop-drop}
use mathlib.Core.List.{List, [], ◌∷◌, ◌++◌}
use native.Mathlib.Omega.{arith}
use Rattle.std.proofs.Math.ListN.{length, length-append}
use Rattle.std.proofs.Math.Seq.{take-append_seam, drop-append_seam, drop-append-add}
use Rattle.refusal.specs.Answer.{Answer, given, refused, then}
use Rattle.refusal.specs.Laws.Answers.{then_stepped}
use Rattle.steps.specs.Finish.{each, between, on_first, on_last, on_middle}

-- a list is what stands before place a, from there up to place b, and from there on
pub in_parts : (a b : ℕ) (ds : List ℕ) → a ≤ b → take a ds ++ (take (b - a) (drop a ds) ++ drop b ds) ≡ ds
in_parts a b ds h =
    let k : a + (b - a) ≡ b = omega arith in
    let e : drop b ds ≡ drop (b - a) (drop a ds) = ap (λ (n : ℕ). drop n ds) (sym k) ∙ sym (drop-drop (b - a) a ds) in
    rw (e, take-append-drop (b - a) (drop a ds)) (take-append-drop a ds)

module _ (f : ℕ → Answer ℕ) where
  between_parts : (xs ys zs : List ℕ) (a b : ℕ) → a ≡ length xs → b ≡ length xs + length ys → between f a b (xs ++ (ys ++ zs)) ≡ then (each f ys) (λ us. given (xs ++ (us ++ zs)))
  unfolding between
  between_parts xs ys zs a b e h =
      let k : length xs + length ys - length xs ≡ length ys = omega arith in
      rw (e, h, k, drop-append_seam xs (ys ++ zs), take-append_seam ys zs, take-append_seam xs (ys ++ zs), drop-append-add xs (ys ++ zs) (length ys), drop-append_seam ys zs) refl

  each_one : (x : ℕ) (g : List ℕ → Answer (List ℕ)) → then (each f (x ∷ [])) g ≡ then (f x) (λ y. g (y ∷ []))
  unfolding each then
  each_one x g = by (f x)
    where
      by : (a : Answer ℕ) → then (then a (λ y. then (given []) (λ ys. given (y ∷ ys)))) g ≡ then a (λ y. g (y ∷ []))
      by (given y) = refl
      by (refused n) = refl

  pub on_first_lem : (x : ℕ) (rest : List ℕ) → on_first f (x ∷ rest) ≡ then (f x) (λ y. given (y ∷ rest))
  unfolding on_first
  on_first_lem x rest = between_parts [] (x ∷ []) rest 0 1 refl refl ∙ each_one x (λ us. given (us ++ rest))

  pub on_last_lem : (xs : List ℕ) (t : ℕ) → on_last f (xs ++ (t ∷ [])) ≡ then (f t) (λ y. given (xs ++ (y ∷ [])))
  unfolding on_last
  on_last_lem xs t =
      let n = length-append xs (t ∷ []) in
      between_parts xs (t ∷ []) [] (length (xs ++ (t ∷ [])) - 1) (length (xs ++ (t ∷ []))) (omega (arith, n)) (omega (arith, n)) ∙ each_one t (λ us. given (xs ++ (us ++ [])))

  pub on_middle_lem : (x : ℕ) (ys : List ℕ) (t : ℕ) → on_middle f (x ∷ (ys ++ (t ∷ []))) ≡ then (each f ys) (λ us. given (x ∷ (us ++ (t ∷ []))))
  unfolding on_middle
  on_middle_lem x ys t =
      let n = length-append ys (t ∷ []) in
      between_parts (x ∷ []) ys (t ∷ []) 1 (1 + (length (x ∷ (ys ++ (t ∷ []))) - 2)) refl (omega (arith, n))

  pub on_no_middle : (x : ℕ) → on_middle f (x ∷ []) ≡ given (x ∷ [])
  unfolding on_middle between each then
  on_no_middle x = refl

  -- dates that were all moved: the first, and the others
  pub record Moved (x : ℕ) (xs ys : List ℕ) : Type 0 where
    pub first : ℕ
    pub others : List ℕ
    pub first_moved : f x ≡ given first
    pub others_moved : each f xs ≡ given others
    pub so : ys ≡ first ∷ others

  pub each_moved : (x : ℕ) (xs ys : List ℕ) → each f (x ∷ xs) ≡ given ys → Moved x xs ys
  unfolding each
  each_moved x xs ys h =
      let s = then_stepped (f x) (λ y. then (each f xs) (λ us. given (y ∷ us))) ys h in
      let t = then_stepped (each f xs) (λ us. given (s.value ∷ us)) ys s.to in
      let e : given (s.value ∷ t.value) ≡ given ys = t.to in
      record { first = s.value; others = t.value; first_moved = s.from; others_moved = t.from; so = cc }

  pub moved_on : (x y : ℕ) (xs ys : List ℕ) → f x ≡ given y → each f xs ≡ given ys → each f (x ∷ xs) ≡ given (y ∷ ys)
  unfolding each then
  moved_on x y xs ys e h = rw (e, h) refl

  pub moved_last : (xs ys : List ℕ) (x y : ℕ) → each f xs ≡ given ys → f x ≡ given y → each f (xs ++ (x ∷ [])) ≡ given (ys ++ (y ∷ []))
  unfolding each
  moved_last [] ys x y h e = let n : ys ≡ [] = cc in rw n (moved_on x y [] [] e refl)
  moved_last (z ∷ zs) ys x y h e =
      let m = each_moved z zs ys h in
      rw m.so (moved_on z m.first (zs ++ (x ∷ [])) (m.others ++ (y ∷ [])) m.first_moved (moved_last zs m.others x y m.others_moved e))

  pub as_many : (xs ys : List ℕ) → each f xs ≡ given ys → length ys ≡ length xs
  unfolding each
  as_many [] ys h = let e : ys ≡ [] = cc in ap length e
  as_many (x ∷ xs) ys h =
      let m = each_moved x xs ys h in
      ap length m.so ∙ ap suc (as_many xs m.others m.others_moved)
