-- Request L7: a build is refused 1 exactly if two of the three lent lengths differ; of even lengths it is refused exactly as 01's build is.
-- Assumes nothing.
use Rattle.std.specs.Prelude.{ℕ, ◌≡◌, ◌↔◌, Bool, not, List, eqb, drop}
use Rattle.std.proofs.Math.Path.{refl}
use Rattle.std.proofs.Common.{sym, subst, ◌∙◌, inl, inr, arith, eqb-true, eq-eqb}
use Rattle.std.proofs.Math.Bool.{true, false, false≢true}
use Rattle.std.proofs.Math.Dec.{leb}
use Rattle.refusal.specs.Answer.{refused, need, UNEVEN}
use Rattle.steps.specs.declared.Request.{Request}
use Rattle.steps.specs.Table.{number_or, first_row, anchor_rows, first_rows, last_rows, rows_under, input_rows}
use Rattle.steps.specs.Build.{admitted, build_of}
use Rattle.steps.specs.Entries.{entries_of}
use Rattle.steps.specs.Laws.Table.{numbers}
use Rattle.steps.specs.Laws.Entries.{forgets, refused_alike}
use Rattle.outcomes.specs.Uneven.{Uneven}
use Rattle.outcomes.proofs.Laws.Rows.{Reason, early, late, reason, late_number, each_number, first_passes}

differ : (a b : ℕ) → eqb a b ≡ false → a ≡ b → ⊥
differ a b e h = false≢true (sym e ∙ eq-eqb a b h)

module _ (q : Request) (closed : List ℕ) where
  -- ---- 01's build, with two lists: 1 exactly if their lengths differ
  module _ (dates flags : ℕ) where
    not_by_others : first_row (drop 1 (input_rows q closed dates flags)) ≡ UNEVEN → ⊥
    unfolding input_rows each_number numbers rows_under first_rows last_rows anchor_rows
    not_by_others k = false≢true (subst (λ (n : ℕ). leb 2 n ≡ true) k (first_passes (leb 2) (drop 1 (input_rows q closed dates flags)) refl (λ z. omega (arith, k, z))))

    one_first : eqb dates flags ≡ true → first_row (input_rows q closed dates flags) ≡ UNEVEN → ⊥
    unfolding input_rows first_row number_or
    one_first e h = by (eqb dates flags) e h
      where
        by : (b : Bool) → b ≡ true → number_or (not b) UNEVEN (first_row (drop 1 (input_rows q closed dates flags))) ≡ UNEVEN → ⊥
        by true _ k = not_by_others k
        by false z _ = false≢true z

    differing_refused : eqb dates flags ≡ false → build_of q closed dates flags ≡ refused UNEVEN
    unfolding build_of admitted input_rows first_row number_or
    differing_refused e = rw e refl

    one_of_two : build_of q closed dates flags ≡ refused UNEVEN → (b : Bool) → eqb dates flags ≡ b → b ≡ false
    one_of_two h false e = refl
    one_of_two h true e = absurd (by (reason q closed dates flags UNEVEN h))
      where
        by : Reason q closed dates flags UNEVEN → ⊥
        by (early k _) = one_first e k
        by (late _ l) = omega (arith, (late_number l).0)

  -- ---- with three
  module _ (dates flags unadjusted : ℕ) where
    third : eqb dates unadjusted ≡ false → entries_of q closed dates flags unadjusted ≡ refused UNEVEN
    unfolding entries_of need
    third e = rw e refl

    as_two : eqb dates unadjusted ≡ true → (n : ℕ) → (entries_of q closed dates flags unadjusted ≡ refused n) ↔ (build_of q closed dates flags ≡ refused n)
    as_two e n =
        let f = forgets q closed dates flags unadjusted (eqb-true dates unadjusted e) in
        let a = refused_alike (entries_of q closed dates flags unadjusted) n in
        ((λ h. sym f ∙ a.0 h), (λ h. a.1 (f ∙ h)))

    pub uneven_exactly : (entries_of q closed dates flags unadjusted ≡ refused UNEVEN) ↔ Uneven dates flags unadjusted
    uneven_exactly = (only (eqb dates unadjusted) refl, always (eqb dates unadjusted) refl (eqb dates flags) refl)
      where
        only : (b : Bool) → eqb dates unadjusted ≡ b → entries_of q closed dates flags unadjusted ≡ refused UNEVEN → Uneven dates flags unadjusted
        only false e h = inr (inl (differ dates unadjusted e))
        only true e h = inl (differ dates flags (one_of_two dates flags ((as_two e UNEVEN).0 h) (eqb dates flags) refl))

        always : (b : Bool) → eqb dates unadjusted ≡ b → (c : Bool) → eqb dates flags ≡ c → Uneven dates flags unadjusted → entries_of q closed dates flags unadjusted ≡ refused UNEVEN
        always false e c d u = third e
        always true e false d u = (as_two e UNEVEN).1 (differing_refused dates flags d)
        always true e true d (inl n) = absurd (n (eqb-true dates flags d))
        always true e true d (inr (inl n)) = absurd (n (eqb-true dates unadjusted e))
        always true e true d (inr (inr n)) = absurd (n (sym (eqb-true dates flags d) ∙ eqb-true dates unadjusted e))

    -- of even lengths every refusal is 01's
    pub refused_as_before : dates ≡ unadjusted → (n : ℕ) → (entries_of q closed dates flags unadjusted ≡ refused n) ↔ (build_of q closed dates flags ≡ refused n)
    refused_as_before e = as_two (eq-eqb dates unadjusted e)
