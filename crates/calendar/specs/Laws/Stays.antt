-- An open day is its own adjusted date, whatever the calendar and the convention, and so an adjusted date is its own.
-- Assumes nothing.
use Rattle.std.specs.Prelude.{ℕ, ◌≡◌, Bool, not}
use Rattle.std.proofs.Math.Path.{refl, sym, ap}
use Rattle.std.proofs.Common.{◌∙◌}
use Rattle.std.proofs.Math.Bool.{true, false}
use borrow.Author.Tests.{eq-eqb}
use Rattle.refusal.specs.Answer.{given, need, then, BOOK}
use Rattle.refusal.specs.Laws.Answers.{need_given, holds, one_given, then_stepped}
use Rattle.date.specs.Date.{within_span, month_index}
use Rattle.calendar.specs.declared.Convention.{Convention}
use Rattle.calendar.specs.declared.Convention.TheVariants.{Unadjusted, Following, ModifiedFollowing, Preceding, ModifiedPreceding}
use Rattle.calendar.specs.AnyCalendar.{in_span, first_open, found, same_month, unless_left, modified, by_convention, adjusted}
use Rattle.calendar.specs.Laws.Search.{found_first, turn_open, span_need, span_given}

module _ (opens : ℕ → Bool) (day : ℕ) (open_day : opens day ≡ true) where
  module _ (s : in_span day ≡ true) where
    found_there : (back : Bool) → found opens back day ≡ given day
    unfolding found then
    found_there back = rw (turn_open opens back 30 day open_day) (span_given day s)

    stays_modified : (back : Bool) → modified opens back day ≡ given day
    unfolding modified then same_month unless_left
    stays_modified back = rw (found_there back, eq-eqb (month_index day) (month_index day) refl)

    stays : (convention : Convention) → by_convention opens convention day ≡ given day
    unfolding by_convention
    stays Unadjusted = refl
    stays Following = found_there false
    stays ModifiedFollowing = stays_modified false
    stays Preceding = found_there true
    stays ModifiedPreceding = stays_modified true

  by_span : (b : Bool) → in_span day ≡ b → (convention : Convention) → need BOOK b (by_convention opens convention day) ≡ need BOOK b (given day)
  unfolding need
  by_span true s convention = stays s convention
  by_span false s convention = refl

  pub open_stays : (convention : Convention) → adjusted opens convention day ≡ within_span day
  unfolding adjusted
  open_stays convention = by_span (in_span day) refl convention ∙ sym (span_need day)

-- where no day is closed every convention does the same
pub all_same : (opens : ℕ → Bool) → ((day : ℕ) → opens day ≡ true) → (a b : Convention) → adjusted opens a ≡ adjusted opens b
all_same opens never a b = λ i day. (open_stays opens day (never day) a ∙ sym (open_stays opens day (never day) b)) i

-- ---- an adjusted date stays
module _ (opens : ℕ → Bool) where
  -- the day that a search gives is an open day of the span
  found_open : (back : Bool) (day new : ℕ) → found opens back day ≡ given new → (in_span new ≡ true) × (opens new ≡ true)
  unfolding found
  found_open back day new h =
      let s = then_stepped (first_open opens back 31 day) within_span new h in
      let n = need_given BOOK (in_span s.value) (given s.value) new (sym (span_need s.value) ∙ s.to) in
      let e : s.value ≡ new = one_given _ s.value new refl n.1 in
      (ap in_span (sym e) ∙ n.0, (found_first opens back 31 day new (s.from ∙ ap given e)).is_open)

  left_open : (b back : Bool) (day one new : ℕ) → found opens back day ≡ given one → unless_left b day one (found opens (not back)) ≡ given new → (in_span new ≡ true) × (opens new ≡ true)
  unfolding unless_left
  left_open true back day one new f h = found_open back day new (f ∙ h)
  left_open false back day one new f h = found_open (not back) day new h

  modified_open : (back : Bool) (day new : ℕ) → modified opens back day ≡ given new → (in_span new ≡ true) × (opens new ≡ true)
  unfolding modified
  modified_open back day new h =
      let s = then_stepped (found opens back day) _ new h in
      left_open (same_month day s.value) back day s.value new s.from s.to

  open_again : (convention : Convention) (new : ℕ) → (in_span new ≡ true) × (opens new ≡ true) → adjusted opens convention new ≡ given new
  open_again convention new o = open_stays opens new o.1 convention ∙ span_given new o.0

  same_again : (day new : ℕ) → in_span day ≡ true → by_convention opens Unadjusted day ≡ given new → adjusted opens Unadjusted new ≡ given new
  unfolding adjusted by_convention
  same_again day new s h =
      let e : day ≡ new = one_given _ day new refl h in
      sym (holds BOOK (in_span new) (given new) (given new) (ap in_span (sym e) ∙ s) refl)

  again : (convention : Convention) (day new : ℕ) → in_span day ≡ true → by_convention opens convention day ≡ given new → adjusted opens convention new ≡ given new
  unfolding by_convention
  again Unadjusted day new s h = same_again day new s h
  again Following day new s h = open_again Following new (found_open false day new h)
  again ModifiedFollowing day new s h = open_again ModifiedFollowing new (modified_open false day new h)
  again Preceding day new s h = open_again Preceding new (found_open true day new h)
  again ModifiedPreceding day new s h = open_again ModifiedPreceding new (modified_open true day new h)

-- an adjusted date stays under the same convention
pub adjust_again : (opens : ℕ → Bool) (convention : Convention) (day new : ℕ) → adjusted opens convention day ≡ given new → adjusted opens convention new ≡ given new
unfolding adjusted
adjust_again opens convention day new h =
    let n = need_given BOOK (in_span day) (by_convention opens convention day) new h in
    again opens convention day new n.0 n.1
