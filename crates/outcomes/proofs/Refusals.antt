-- What a build may be refused with, in five statements: the first row of the table that holds, and where none does 13, 14 or 15; so never 0, nor
-- after the input checks 2; 13 only where the calendar is searched; more room, and more candidates, change nothing. Of every request, closed
-- list and lent length.
-- Assumes nothing.
use Rattle.std.specs.Prelude.{ℕ, ◌+◌, ◌≤◌, ◌≡◌, ◌⊎◌, Bool, true, false, List}
use Rattle.std.proofs.Common.{sym, ap, ◌∙◌, inl, inr, arith}
use Rattle.std.proofs.lemmas.Bool.{false≢true}
use Rattle.refusal.specs.Answer.{refused, BOOK, CLOSED, ROOM, COLLAPSED}
use Rattle.calendar.specs.declared.Convention.TheVariants.{Unadjusted}
use Rattle.steps.specs.declared.Request.{Request}
use Rattle.steps.specs.Table.{input_rows}
use Rattle.steps.specs.Laws.Table.{NoneHolds, FirstHolds, refused_exactly, accepted_exactly, input_numbered}
use Rattle.steps.specs.Generate.{Lists, last_try, candidates}
use Rattle.steps.specs.Build.{build_of}
use Rattle.outcomes.specs.Late.{Late}
use Rattle.outcomes.specs.Searches.{Searches, for_convention, for_terminal, for_month_end, for_first_date, StepsNoOpenDays, no_first, backward, not_days}
use Rattle.outcomes.proofs.Laws.Bound.{Enters, candidates_in}
use Rattle.outcomes.proofs.Laws.Bound as bound
use Rattle.outcomes.proofs.Laws.Rows.{of_checks, Reason, early, late, reason, late_number, late_closed}
use Rattle.outcomes.specs.NoLimit as room

module _ (q : Request) (closed : List ℕ) where
  module _ (dates flags : ℕ) where
    -- ---- 1: refused with the number of the first row that holds, or, where none does, with 13 for a search, 14 for room, 15 at a merge
    pub first_row_or_late : (n : ℕ) → build_of q closed dates flags ≡ refused n → FirstHolds (input_rows q closed dates flags) n ⊎ (NoneHolds (input_rows q closed dates flags) × Late (Searches q) n)
    first_row_or_late n h = by (reason q closed dates flags n h)
      where
        by : Reason q closed dates flags n → FirstHolds (input_rows q closed dates flags) n ⊎ (NoneHolds (input_rows q closed dates flags) × Late (Searches q) n)
        by (early e a) = inl ((refused_exactly (input_rows q closed dates flags) (input_numbered q closed dates flags) n (λ z. false≢true (ap of_checks (sym z) ∙ a))).0 e)
        by (late e l) = inr ((accepted_exactly (input_rows q closed dates flags) (input_numbered q closed dates flags)).0 e, l)

    -- so with a number of the checks (1 to 12, and 27), or 13, 14 or 15, and never with 0
    pub its_numbers : (n : ℕ) → build_of q closed dates flags ≡ refused n → (of_checks n ≡ true) ⊎ ((CLOSED ≤ n) × (n ≤ COLLAPSED))
    its_numbers n h = by (reason q closed dates flags n h)
      where
        by : Reason q closed dates flags n → (of_checks n ≡ true) ⊎ ((CLOSED ≤ n) × (n ≤ COLLAPSED))
        by (early e a) = inl a
        by (late e l) = inr (late_number l)

    pub never_zero : build_of q closed dates flags ≡ refused 0 → ⊥
    never_zero h = by (reason q closed dates flags 0 h)
      where
        by : Reason q closed dates flags 0 → ⊥
        by (early e a) = false≢true a
        by (late e l) = omega (arith, (late_number l).0)

    -- ---- 2: a request that passes the checks is never refused 2
    pub never_outside : NoneHolds (input_rows q closed dates flags) → build_of q closed dates flags ≡ refused BOOK → ⊥
    never_outside a h = by (reason q closed dates flags BOOK h)
      where
        by : Reason q closed dates flags BOOK → ⊥
        by (early e _) = omega (arith, (accepted_exactly (input_rows q closed dates flags) (input_numbered q closed dates flags)).1 a)
        by (late e l) = omega (arith, (late_number l).0)

    -- ---- 3: refused 13 only where the calendar is searched; so never under Unadjusted, end of month off, unless the flag of a first date steps open days
    pub closed_by_search : build_of q closed dates flags ≡ refused CLOSED → Searches q
    closed_by_search h = by (reason q closed dates flags CLOSED h)
      where
        by : Reason q closed dates flags CLOSED → Searches q
        by (early e a) = absurd (false≢true a)
        by (late e l) = late_closed l

    pub never_closed : q.convention ≡ Unadjusted → q.terminal ≡ Unadjusted → q.monthend ≡ false → StepsNoOpenDays q → build_of q closed dates flags ≡ refused CLOSED → ⊥
    never_closed c t m s h = by s (closed_by_search h)
      where
        by : StepsNoOpenDays q → Searches q → ⊥
        by s (for_convention n) = n c
        by s (for_terminal n) = n t
        by s (for_month_end e) = false≢true (sym m ∙ e)
        by (no_first z) (for_first_date f n u) = n z
        by (backward b) (for_first_date f n u) = false≢true (sym f ∙ b)
        by (not_days d) (for_first_date f n u) = d u

  -- ---- 4: of two rooms, if the smaller is not refused 14, both give the same
  pub more_room : (r r' : ℕ) → r ≤ r' → (build_of q closed r r ≡ refused ROOM → ⊥) → build_of q closed r' r' ≡ build_of q closed r r
  more_room r r' h n = room.more_lent q closed r r' h n

  -- ---- 5: more candidates than the definition looks at give the same, wherever a build that passes the checks enters its loop
  pub more_candidates : (dates flags room more : ℕ) → NoneHolds (input_rows q closed dates flags) → {back : Bool} {seed exit : ℕ} {l : Lists} → Enters q closed room back seed exit l → candidates_in (last_try + more) q closed room back seed exit l ≡ candidates q closed room back seed exit l
  more_candidates dates flags room more h i = bound.bound_suffices q closed dates flags room ((accepted_exactly (input_rows q closed dates flags) (input_numbered q closed dates flags)).1 h) i more
