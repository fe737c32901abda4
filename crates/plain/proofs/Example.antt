-- Document 01, "Sums by hand": the first builds marked *, by demand 3 and not by making the list.
-- Assumes nothing.
use Rattle.std.specs.Prelude.{ℕ, ◌<◌, ◌≡◌, refl, true, false, List, [], ◌∷◌, ltb}
use Rattle.std.proofs.Common.{inl, arith}
use Rattle.refusal.specs.Answer.{given, refused, need, ROOM}
use Rattle.period.specs.declared.Unit.TheVariants.{Months}
use Rattle.date.specs.Civil.{leap, row_of, month_length, gone, sum_to, day_number, guess, years_gone, month_in, day_in, place_of, fields_at}
use Rattle.date.specs.Date.{in_book, make_of, month_index, in_month, step, shift_months, shifted}
use Rattle.calendar.specs.declared.Convention.TheVariants.{Unadjusted}
use Rattle.calendar.specs.Open.{ascending, closed_ok, calendar_ok}
use Rattle.calendar.specs.Calendar.{longest, tenor_ok}
use Rattle.steps.specs.declared.Rule.TheVariants.{Backward}
use Rattle.steps.specs.declared.Request.{Request}
use Rattle.steps.specs.Build.{build_of}
use Rattle.plain.specs.Requests.{on, asked}
use Rattle.plain.specs.Demand.{Plain, Passes, taken, Most}
use Rattle.plain.specs.Laws.Falling.{due_list}
use Rattle.plain.specs.Laws.Walked.{owed_list}
use Rattle.plain.specs.Laws.Mosts.{most_if}
use Rattle.plain.proofs.Laws.Formula.{given_by, refused_by}

-- Backward by months, always open, Unadjusted, with no anchors and end of month off
abbrev monthly : ℕ → ℕ → ℕ → Request
monthly months from to = asked Backward Unadjusted Unadjusted false from to months Months 0 0 0

-- quarterly from 2025-01-15 to 2025-12-20, and monthly from 2025-01-31 to 2025-05-31
abbrev quarters : Request
quarters = monthly 3 739266 739605

abbrev ends : Request
ends = monthly 1 739282 739402

days : ◌≡◌ {A = List ℕ} (on 1 15 ∷ on 12 20 ∷ on 1 31 ∷ on 5 31 ∷ []) (739266 ∷ 739605 ∷ 739282 ∷ 739402 ∷ [])
unfolding day_number leap row_of gone sum_to
days = refl

module _ (months from to room : ℕ) where
  is_plain : ltb 0 months ≡ true → from < to → Plain (monthly months from to)
  is_plain h o = record { backward = refl; positive = h; no_first = refl; no_penultimate = refl; unadjusted = refl; unadjusted_last = refl; no_month_end = refl; order = o }

  passes : in_book from ≡ true → in_book to ≡ true → tenor_ok months Months ≡ true → Passes (monthly months from to) [] room room
  unfolding calendar_ok closed_ok ascending
  passes e t l = record { even = refl; effective_in_book = e; termination_in_book = t; calendar_sound = refl; tenor_short = l }

quarters_pass : (room : ℕ) → Passes quarters [] room room
unfolding in_book tenor_ok longest
quarters_pass room = passes 3 739266 739605 room refl refl refl

ends_pass : (room : ℕ) → Passes ends [] room room
unfolding in_book tenor_ok longest
ends_pass room = passes 1 739282 739402 room refl refl refl

quarters_plain : Plain quarters
quarters_plain = is_plain 3 739266 739605 0 refl (omega arith)

ends_plain : Plain ends
ends_plain = is_plain 1 739282 739402 0 refl (omega arith)

-- eleven months lead to 2025-01-20 and twelve to 2024-12-20; four lead to 2025-01-31 and five to 2024-12-31
months : (taken quarters 11 ≡ given 739271) × (taken quarters 12 ≡ given 739240) × (taken ends 4 ≡ given 739282) × (taken ends 5 ≡ given 739251)
unfolding shifted shift_months step month_index in_month make_of need leap row_of month_length gone sum_to day_number guess years_gone month_in day_in place_of fields_at
months = (refl, refl, refl, refl)

quarters_most : Most quarters 11
quarters_most = most_if quarters [] 0 0 quarters_plain (quarters_pass 0) 11 739271 739240 months.0 (omega arith) months.1 (omega arith)

ends_most : Most ends 4
ends_most = most_if ends [] 0 0 ends_plain (ends_pass 0) 4 739282 739251 months.2 (omega arith) months.3 (omega arith)

-- the first period of the one is irregular, that of the other regular; five places suffice, four do not
pub quarters_fit : build_of quarters [] 5 5 ≡ given (record { dates = on 1 15 ∷ on 3 20 ∷ on 6 20 ∷ on 9 20 ∷ on 12 20 ∷ []; flags = 0 ∷ 1 ∷ 1 ∷ 1 ∷ []; tries = 4 })
unfolding owed_list due_list shifted shift_months step month_index in_month make_of need leap row_of month_length gone sum_to day_number guess years_gone month_in day_in place_of fields_at
quarters_fit = given_by quarters [] 5 5 quarters_plain (quarters_pass 5) 11 quarters_most (omega arith) (omega arith)

pub quarters_do_not : build_of quarters [] 4 4 ≡ refused ROOM
unfolding owed_list due_list shifted shift_months step month_index in_month make_of need leap row_of month_length gone sum_to day_number guess years_gone month_in day_in place_of fields_at
quarters_do_not = refused_by quarters [] 4 4 quarters_plain (quarters_pass 4) 11 quarters_most (inl (omega arith))

pub ends_fit : build_of ends [] 5 5 ≡ given (record { dates = on 1 31 ∷ on 2 28 ∷ on 3 31 ∷ on 4 30 ∷ on 5 31 ∷ []; flags = 1 ∷ 1 ∷ 1 ∷ 1 ∷ []; tries = 5 })
unfolding owed_list due_list shifted shift_months step month_index in_month make_of need leap row_of month_length gone sum_to day_number guess years_gone month_in day_in place_of fields_at
ends_fit = given_by ends [] 5 5 ends_plain (ends_pass 5) 4 ends_most (omega arith) (omega arith)
