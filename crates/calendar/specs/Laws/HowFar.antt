-- How far dates move (change request L8): dates and refusals are the former ones on every input, and what the days are, for any calendar.
-- Assumes nothing.
use Rattle.std.specs.Prelude.{ℕ, suc, ◌+◌, ◌-◌, ◌≤◌, ◌≡◌, Bool, List, leb, ltb, ℤ, pos, negsuc, nat_abs}
use Rattle.std.proofs.Math.Path.{refl, sym}
use Rattle.std.proofs.Common.{ap, ◌∙◌, le-leb, leb-true, le-ltb, ltb-true, ltb-false}
use Rattle.std.proofs.Math.Bool.{true, false, not}
use Rattle.std.proofs.lemmas.Bool.{false≢true}
use native.Mathlib.Omega.{arith}
use Rattle.std.proofs.Math.IntN.{sub_ℕ}
use Rattle.refusal.specs.Answer.{Answer, given, refused, then, BOOK, CALENDAR}
use Rattle.refusal.specs.Laws.Answers.{need_given, then_stepped, one_given, never_both, both, holds}
use Rattle.period.specs.Period.{is_negative, is_positive}
use Rattle.date.specs.Date.{SPAN_FIRST, SPAN_LAST, in_book, step, last_of_month}
use Rattle.calendar.specs.declared.Convention.{Convention}
use Rattle.calendar.specs.declared.Convention.TheVariants.{Unadjusted, Following, ModifiedFollowing, Preceding, ModifiedPreceding}
use Rattle.calendar.specs.AnyCalendar.{in_span, same_month, unless_left, towards, found, modified, by_convention, adjusted, last_open}
use Rattle.calendar.specs.Open.{is_open_day, calendar_ok}
use Rattle.calendar.specs.Calendar.{adjust_of, last_open_of}
use Rattle.calendar.specs.Moves.{moved_from, date_of, adjust_move_of, last_open_move_of}
use Rattle.calendar.specs.Inner.Reach.{UpTo}
use Rattle.calendar.specs.Laws.Search.{First, adjusted_first}
use Rattle.calendar.specs.Laws.Conventions.{within_given}
use Rattle.calendar.specs.Laws.Stays.{adjust_again, open_stays}
use Rattle.calendar.specs.Laws.Moved.{Gives, given_date, same_date}

-- ---- the difference of two days, as an integer
sub_by : (P : ℤ → Type 0) (a b : ℕ) (t : Bool) → ltb a b ≡ t → (b ≤ a → P (pos (a - b))) → (suc a ≤ b → P (negsuc (b - suc a))) → P (sub_ℕ a b)
sub_by P a b true e later earlier = rw e (earlier (ltb-true a b e))
sub_by P a b false e later earlier = rw e (later (ltb-false a b e))

pub sub_same : (a : ℕ) → sub_ℕ a a ≡ pos 0
sub_same a = rw (le-ltb a a (omega arith)) (ap pos (omega arith))

pub sub_none : (a b : ℕ) → sub_ℕ a b ≡ pos 0 → a ≡ b
sub_none a b = sub_by (λ z. z ≡ pos 0 → a ≡ b) a b (ltb a b) refl (λ l e. let q : a - b ≡ 0 = cc in omega arith) (λ l e. let z : ◌≡◌ {A = ℕ} 0 1 = cc in let bad : ⊥ = omega arith in absurd bad)

pub sub_later : (a b : ℕ) → b ≤ a → is_negative (sub_ℕ a b) ≡ false
sub_later a b h = sub_by (λ z. is_negative z ≡ false) a b (ltb a b) refl (λ l. refl) (λ l. let bad : ⊥ = omega arith in absurd bad)

pub sub_earlier : (a b : ℕ) → a ≤ b → is_positive (sub_ℕ a b) ≡ false
sub_earlier a b h = sub_by (λ z. is_positive z ≡ false) a b (ltb a b) refl (λ l. le-ltb 0 (a - b) (omega arith)) (λ l. refl)

pub sub_size : (a b k : ℕ) → a ≤ b + k → b ≤ a + k → nat_abs (sub_ℕ a b) ≤ k
sub_size a b k h g = sub_by (λ z. nat_abs z ≤ k) a b (ltb a b) refl (λ l. omega arith) (λ l. omega arith)

-- every convention but Unadjusted looks for an open day
unfoldable pub searches : Convention → Bool
searches Unadjusted = false
searches Following = true
searches ModifiedFollowing = true
searches Preceding = true
searches ModifiedPreceding = true

-- ---- days of the span
pub span_low : (day : ℕ) → in_span day ≡ true → SPAN_FIRST ≤ day
unfolding in_span
span_low day e = leb-true SPAN_FIRST day (both _ _ e).0

pub span_high : (day : ℕ) → in_span day ≡ true → day ≤ SPAN_LAST
unfolding in_span
span_high day e = leb-true day SPAN_LAST (both (leb SPAN_FIRST day) _ e).1

pub span_between : (day : ℕ) → SPAN_FIRST ≤ day → day ≤ SPAN_LAST → in_span day ≡ true
unfolding in_span
span_between day l h = rw (le-leb SPAN_FIRST day l, le-leb day SPAN_LAST h)

module _ (opens : ℕ → Bool) where
  -- a day that is adjusted, and its adjusted date, are days of the span
  pub adjusted_from : (convention : Convention) (day new : ℕ) → adjusted opens convention day ≡ given new → in_span day ≡ true
  unfolding adjusted
  adjusted_from convention day new h = (need_given BOOK (in_span day) _ new h).0

  pub adjusted_in : (convention : Convention) (day new : ℕ) → adjusted opens convention day ≡ given new → in_span new ≡ true
  adjusted_in convention day new h = adjusted_from convention new new (adjust_again opens convention day new h)

  pub adjusted_up_to : (convention : Convention) (day : ℕ) (a : Answer ℕ) → a ≡ adjusted opens convention day → UpTo day a
  adjusted_up_to convention day a h d e =
      (span_high day (adjusted_from convention day d (sym h ∙ e)), span_high d (adjusted_in convention day d (sym h ∙ e)))

  -- ---- how far a search goes: on or back, at most 30 days
  on_first_lem : (day new : ℕ) → First opens false 31 day new → (day ≤ new) × (new ≤ day + 30)
  unfolding step
  on_first_lem day new f = (omega (arith, f.there, f.few), omega (arith, f.there, f.few))

  back_first : (day new : ℕ) → 31 ≤ day → First opens true 31 day new → (new ≤ day) × (day ≤ new + 30)
  unfolding step
  back_first day new l f = (omega (arith, f.there, f.few), omega (arith, f.there, f.few))

  pub following_on : (day new : ℕ) → adjusted opens Following day ≡ given new → (day ≤ new) × (new ≤ day + 30)
  unfolding towards
  following_on day new h = on_first_lem day new (adjusted_first opens false day new h)

  pub preceding_back : (day new : ℕ) → adjusted opens Preceding day ≡ given new → (new ≤ day) × (day ≤ new + 30)
  unfolding towards
  preceding_back day new h =
      back_first day new (omega (arith, span_low day (adjusted_from Preceding day new h))) (adjusted_first opens true day new h)

  -- ---- the search that gave a modified date
  record Either (day new : ℕ) : Type 0 where
    way : Bool
    by : found opens way day ≡ given new

  either_left : (b back : Bool) (day one new : ℕ) → found opens back day ≡ given one → unless_left b day one (found opens (not back)) ≡ given new → Either day new
  unfolding unless_left
  either_left true back day one new f h = record { way = back; by = f ∙ h }
  either_left false back day one new f h = record { way = not back; by = h }

  either : (back : Bool) (day new : ℕ) → modified opens back day ≡ given new → Either day new
  unfolding modified
  either back day new h =
      let s = then_stepped (found opens back day) _ new h in
      either_left (same_month day s.value) back day s.value new s.from s.to

  as_adjusted : (way : Bool) (day new : ℕ) → in_span day ≡ true → found opens way day ≡ given new → adjusted opens (towards way) day ≡ given new
  unfolding adjusted by_convention towards
  as_adjusted true day new s h = sym (holds BOOK (in_span day) _ (given new) s (sym h))
  as_adjusted false day new s h = sym (holds BOOK (in_span day) _ (given new) s (sym h))

  -- an adjusted date was found on or back, but under Unadjusted
  one_way : (convention : Convention) (day new : ℕ) → searches convention ≡ true → in_span day ≡ true → by_convention opens convention day ≡ given new → Either day new
  unfolding by_convention searches
  one_way Unadjusted day new k s h = absurd (false≢true k)
  one_way Following day new k s h = record { way = false; by = h }
  one_way ModifiedFollowing day new k s h = either false day new h
  one_way Preceding day new k s h = record { way = true; by = h }
  one_way ModifiedPreceding day new k s h = either true day new h

  within_thirty : (way : Bool) (day new : ℕ) → adjusted opens (towards way) day ≡ given new → (new ≤ day + 30) × (day ≤ new + 30)
  unfolding towards
  within_thirty false day new h = let n = following_on day new h in (n.1, omega (arith, n.0))
  within_thirty true day new h = let n = preceding_back day new h in (omega (arith, n.0), n.1)

  pub searched_open : (convention : Convention) (day new : ℕ) → searches convention ≡ true → adjusted opens convention day ≡ given new → opens new ≡ true
  unfolding adjusted
  searched_open convention day new k h =
      let n = need_given BOOK (in_span day) (by_convention opens convention day) new h in
      let e = one_way convention day new k n.0 n.1 in
      (adjusted_first opens e.way day new (as_adjusted e.way day new n.0 e.by)).is_open

  searched_near : (convention : Convention) (day new : ℕ) → searches convention ≡ true → adjusted opens convention day ≡ given new → (new ≤ day + 30) × (day ≤ new + 30)
  unfolding adjusted
  searched_near convention day new k h =
      let n = need_given BOOK (in_span day) (by_convention opens convention day) new h in
      let e = one_way convention day new k n.0 n.1 in
      within_thirty e.way day new (as_adjusted e.way day new n.0 e.by)

  pub unadjusted_same : (day new : ℕ) → adjusted opens Unadjusted day ≡ given new → new ≡ day
  unfolding adjusted by_convention
  unadjusted_same day new h = sym (one_given _ day new refl (need_given BOOK (in_span day) (given day) new h).1)

  -- at most 30 days, whatever the convention
  near_by : (b : Bool) (convention : Convention) (day new : ℕ) → searches convention ≡ b → adjusted opens convention day ≡ given new → (new ≤ day + 30) × (day ≤ new + 30)
  unfolding searches
  near_by true convention day new k h = searched_near convention day new k h
  near_by false Unadjusted day new k h = let e = unadjusted_same day new h in (omega arith, omega arith)
  near_by false Following day new k h = absurd (false≢true (sym k))
  near_by false ModifiedFollowing day new k h = absurd (false≢true (sym k))
  near_by false Preceding day new k h = absurd (false≢true (sym k))
  near_by false ModifiedPreceding day new k h = absurd (false≢true (sym k))

  pub near : (convention : Convention) (day new : ℕ) → adjusted opens convention day ≡ given new → (new ≤ day + 30) × (day ≤ new + 30)
  near convention day new h = near_by (searches convention) convention day new refl h

-- ---- the move of an adjustment from `day` to `new`, for any calendar
pub record Move (opens : ℕ → Bool) (convention : Convention) (day new : ℕ) (days : ℤ) : Type 0 where
  pub difference : days ≡ sub_ℕ new day
  pub size : nat_abs days ≤ 30
  pub unadjusted : convention ≡ Unadjusted → days ≡ pos 0
  pub following : convention ≡ Following → is_negative days ≡ false
  pub preceding : convention ≡ Preceding → is_positive days ≡ false
  pub open_none : opens day ≡ true → days ≡ pos 0
  pub none_open : searches convention ≡ true → days ≡ pos 0 → opens day ≡ true

pub adjusted_move : (opens : ℕ → Bool) (convention : Convention) (day new : ℕ) → adjusted opens convention day ≡ given new → Move opens convention day new (sub_ℕ new day)
adjusted_move opens convention day new h =
    let n = near opens convention day new h in
    record {
      difference = refl;
      size = sub_size new day 30 n.0 n.1;
      unadjusted = λ e. stayed (unadjusted_same opens day new (sym (ap (λ (c : Convention). adjusted opens c day) e) ∙ h));
      following = λ e. sub_later new day (following_on opens day new (sym (ap (λ (c : Convention). adjusted opens c day) e) ∙ h)).0;
      preceding = λ e. sub_earlier new day (preceding_back opens day new (sym (ap (λ (c : Convention). adjusted opens c day) e) ∙ h)).0;
      open_none = λ o. stayed (within_given day new (sym (open_stays opens day o convention) ∙ h));
      none_open = λ k z. ap opens (sym (sub_none new day z)) ∙ searched_open opens convention day new k h;
    }
  where
    stayed : new ≡ day → sub_ℕ new day ≡ pos 0
    stayed e = ap (λ (k : ℕ). sub_ℕ k day) e ∙ sub_same day

-- ---- what an answer with a move tells: the date, its base, and that the days are their difference
pub record Measured (base date : Answer ℕ) (new : ℕ) (days : ℤ) : Type 0 where
  pub from : ℕ
  pub is_base : base ≡ given from
  pub is_date_lem : date ≡ given new
  pub difference : days ≡ sub_ℕ new from

pub measured : (base date : Answer ℕ) (new : ℕ) (days : ℤ) → moved_from base date ≡ given (new, days) → Measured base date new days
unfolding moved_from then
measured (given b) (given d) new days h =
    let e : ◌≡◌ {A = ℕ × ℤ} (d, sub_ℕ d b) (new, days) = one_given _ _ _ refl h in
    let same : d ≡ new = ap (λ (p : ℕ × ℤ). p.0) e in
    record {
      from = b;
      is_base = refl;
      is_date_lem = ap given same;
      difference = sym (ap (λ (p : ℕ × ℤ). p.1) e) ∙ ap (λ (k : ℕ). sub_ℕ k b) same;
    }
measured (refused n) (given d) new days h = absurd (never_both _ _ n h refl)
measured base (refused n) new days h = absurd (never_both _ _ n h refl)

-- ---- any calendar's adjustment from a day
pub move_of : (opens : ℕ → Bool) (convention : Convention) (day new : ℕ) (days : ℤ) (date : Answer ℕ) → (date ≡ given new → adjusted opens convention day ≡ given new) → moved_from (given day) date ≡ given (new, days) → Move opens convention day new days
move_of opens convention day new days date f h =
    let m = measured (given day) date new days h in
    let e : days ≡ sub_ℕ new day = m.difference ∙ ap (λ (k : ℕ). sub_ℕ new k) (sym (one_given _ day m.from refl m.is_base)) in
    rw e (adjusted_move opens convention day new (f m.is_date_lem))

-- a month that has a last open day has a last day
pub last_open_gives : (opens : ℕ → Bool) (day new : ℕ) → last_open opens day ≡ given new → Gives (last_of_month day)
unfolding last_open
last_open_gives opens day new h = let s = then_stepped (last_of_month day) _ new h in record { value = s.value; is = s.from }

-- the date that was taken out of what a month end answered
pub took_end : (opens : ℕ → Bool) (day : ℕ) (a : Answer ℕ) (m : Answer (ℕ × ℤ)) → a ≡ date_of m → m ≡ moved_from (last_of_month day) (last_open opens day) → a ≡ last_open opens day
took_end opens day a m e h =
    e ∙ ap date_of h ∙ same_date (last_of_month day) (last_open opens day) (last_open_gives opens day)

module _ (mask : ℕ) (closed : List ℕ) where
  adjust_given : (convention : Convention) (day new : ℕ) → adjust_of mask closed convention day ≡ given new → adjusted (is_open_day mask closed) convention day ≡ given new
  unfolding adjust_of
  adjust_given convention day new h =
      (need_given CALENDAR (calendar_ok mask closed) _ new (need_given BOOK (in_book day) _ new h).1).1

  -- ---- the adjustment: the former date and refusals, and the laws of its move
  pub adjust_date : (convention : Convention) (day : ℕ) → date_of (adjust_move_of mask closed convention day) ≡ adjust_of mask closed convention day
  unfolding adjust_move_of
  adjust_date convention day = given_date day (adjust_of mask closed convention day)

  pub adjust_move : (convention : Convention) (day new : ℕ) (days : ℤ) → adjust_move_of mask closed convention day ≡ given (new, days) → Move (is_open_day mask closed) convention day new days
  unfolding adjust_move_of
  adjust_move convention day new days h =
      move_of (is_open_day mask closed) convention day new days (adjust_of mask closed convention day) (adjust_given convention day new) h

  -- ---- a month end: the former date and refusals; the days are those from the month's last day
  last_open_base : (day new : ℕ) → last_open_of mask closed day ≡ given new → Gives (last_of_month day)
  unfolding last_open_of
  last_open_base day new h =
      last_open_gives (is_open_day mask closed) day new
      (need_given CALENDAR (calendar_ok mask closed) _ new (need_given BOOK (in_book day) _ new h).1).1

  pub month_end_date : (day : ℕ) → date_of (last_open_move_of mask closed day) ≡ last_open_of mask closed day
  unfolding last_open_move_of
  month_end_date day = same_date (last_of_month day) (last_open_of mask closed day) (last_open_base day)

  pub month_end_move_lem : (day new : ℕ) (days : ℤ) → last_open_move_of mask closed day ≡ given (new, days) → Measured (last_of_month day) (last_open_of mask closed day) new days
  unfolding last_open_move_of
  month_end_move_lem day new days h = measured _ _ new days h
