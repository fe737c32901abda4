-- The steps after generating are refused with 13, 14 or 15 if at all, where the dates generated are of 1900 to 2200; with 13 only where a
-- convention adjusts or end of month is on.
-- Assumes nothing.
use Prim.Native.Nat.{ℕ, zero, suc, ◌+◌, ◌-◌, ◌≤◌}
use Rattle.std.specs.Prelude.{◌≡◌, refl, Bool, leb, length, take}
use Rattle.std.proofs.Math.Bool.{true, false}
use mathlib.Core.List.{List, [], ◌∷◌, ◌++◌}
use Rattle.std.proofs.Common.{arith}
use Rattle.std.proofs.Math.ListN.{drop}
use Rattle.refusal.specs.Answer.{Answer, given, COLLAPSED}
use Rattle.date.specs.Civil.{fields_of, days_until}
use Rattle.date.specs.Date.{month_index}
use Rattle.date.specs.Laws.Moves.{nth_of, until_at}
use Rattle.calendar.specs.declared.Convention.{Convention}
use Rattle.calendar.specs.declared.Convention.TheVariants.{Unadjusted, Following, ModifiedFollowing, Preceding, ModifiedPreceding}
use Rattle.calendar.specs.Adjust.{convention_number}
use Rattle.steps.specs.declared.Rule.{Rule}
use Rattle.steps.specs.declared.Rule.TheVariants.{ThirdWednesday, ThirdWednesdayInclusive}
use Rattle.steps.specs.declared.Request.{Request}
use Rattle.steps.specs.declared.Move.{Move}
use Rattle.steps.specs.declared.Move.TheVariants.{Stay, ThirdWednesdays, Adjust, MonthEnds, OpenMonthEnds}
use Rattle.steps.specs.Rules.{one_of, rule_in_force, is_old_cds, is_credit}
use Rattle.steps.specs.Finish.{third_wednesday, moved, each, between, on_first, on_last, on_middle, wednesdays_by, wednesdays, unless, first_move, last_move, month_end_move, middle_move, seed_asked, seed_at_end, adjustments, meet_at_front, merge_end, merge_front_if, merge_front, finish}
use Rattle.outcomes.specs.Late.{by_merge, Fine, Any, gives, steps, weaker, other}
use Rattle.outcomes.specs.Laws.Searched.{Asks, adjusts}
use Rattle.outcomes.specs.Laws.Days.{InMonth, At, at_more, month_close, made_fine, last_fine, adjust_fine, open_end_fine, end_fine}
use Rattle.outcomes.specs.Laws.Each.{Each, each_take, each_drop, each_joined, each_weaker}

-- no seed, or one of 1900 to 2200
pub data SeedIs : ℕ → Type 0 where
  none : SeedIs 0
  some : (n : ℕ) → At 0 n → SeedIs n

-- ---- what moves a date: not by a search, or where there may be one
data MoveAsks (c : Type 0) : Move → Type 0 where
  to_none : MoveAsks c Stay
  to_wednesday : MoveAsks c ThirdWednesdays
  to_adjusted : {convention : Convention} → Asks c convention → MoveAsks c (Adjust convention)
  to_end : MoveAsks c MonthEnds
  to_open_end : c → MoveAsks c OpenMonthEnds

module _ {c : Type 0} where
  unless_asks : (b : Bool) (convention : Convention) → Asks c convention → MoveAsks c (unless b convention)
  unfolding unless
  unless_asks true convention h = to_none
  unless_asks false convention h = to_adjusted h

  ends_ask : (convention : Convention) → Asks c convention → MoveAsks c (month_end_move convention)
  unfolding month_end_move convention_number
  ends_ask Unadjusted h = to_end
  ends_ask Following h = to_open_end (h (adjusts Following (omega arith)))
  ends_ask ModifiedFollowing h = to_open_end (h (adjusts ModifiedFollowing (omega arith)))
  ends_ask Preceding h = to_open_end (h (adjusts Preceding (omega arith)))
  ends_ask ModifiedPreceding h = to_open_end (h (adjusts ModifiedPreceding (omega arith)))

  middle_asks : (b : Bool) (convention : Convention) → Asks c convention → MoveAsks c (middle_move b convention)
  unfolding middle_move
  middle_asks true convention h = ends_ask convention h
  middle_asks false convention h = to_adjusted h

  -- ---- a date is moved
  module _ (m d : ℕ) (s : m ≤ 1000) (a : At m d) where
    third_fine : Fine c (InMonth (month_index d)) (third_wednesday d)
    unfolding third_wednesday
    third_fine =
        rw (← nth_of 3 3 (fields_of d).month (fields_of d).year (omega arith) (omega arith) (omega arith) (omega arith) _ refl)
        (steps _ (made_fine m d s a 1 (omega arith) (omega arith)) (λ first i. made_fine m d s a (1 + days_until first 3 + 14) (omega arith) (omega (arith, until_at _ first 3 refl))))

    of_month : {x : Answer ℕ} → Fine c (InMonth (month_index d)) x → Fine c (At (m + 62)) x
    of_month u = weaker u (λ r i. at_more (m + 31) (m + 62) r (omega arith) (month_close m d s a r i))

    moved_fine : (mask : ℕ) (closed : List ℕ) {move : Move} → MoveAsks c move → Fine c (At (m + 62)) (moved mask closed move d)
    unfolding moved
    moved_fine mask closed to_none = gives d (at_more m (m + 62) d (omega arith) a)
    moved_fine mask closed to_wednesday = of_month third_fine
    moved_fine mask closed (to_adjusted {convention} h) = weaker (adjust_fine m d s a mask closed convention h) (λ r b. at_more (m + 31) (m + 62) r (omega arith) b)
    moved_fine mask closed to_end = of_month (last_fine m d s a)
    moved_fine mask closed (to_open_end h) = open_end_fine m d s a mask closed h

  -- ---- the dates of a list
  each_fine : (P Q : ℕ → Type 0) (f : ℕ → Answer ℕ) (ds : List ℕ) → ((d : ℕ) → P d → Fine c Q (f d)) → Each P ds → Fine c (Each Q) (each f ds)
  unfolding each
  each_fine P Q f [] s h = gives [] tt
  each_fine P Q f (x ∷ xs) s h = steps _ (s x h.0) (λ y p. steps _ (each_fine P Q f xs s h.1) (λ ys q. gives (y ∷ ys) (p, q)))

  module _ (mask : ℕ) (closed : List ℕ) (m : ℕ) (s : m ≤ 1000) (ds : List ℕ) (a : Each (At m) ds) (move : Move) (k : MoveAsks c move) where
    stay : (xs : List ℕ) → Each (At m) xs → Each (At (m + 62)) xs
    stay xs h = each_weaker (At m) (At (m + 62)) xs (λ d i. at_more m (m + 62) d (omega arith) i) h

    some_fine : (xs : List ℕ) → Each (At m) xs → Fine c (Each (At (m + 62))) (each (moved mask closed move) xs)
    some_fine xs h = each_fine (At m) (At (m + 62)) (moved mask closed move) xs (λ d i. moved_fine m d s i mask closed k) h

    all_fine : Fine c (Each (At (m + 62))) (each (moved mask closed move) ds)
    all_fine = some_fine ds a

    between_fine : (x y : ℕ) → Fine c (Each (At (m + 62))) (between (moved mask closed move) x y ds)
    unfolding between
    between_fine x y =
        steps _ (some_fine (take (y - x) (drop x ds)) (each_take (At m) (y - x) (drop x ds) (each_drop (At m) x ds a))) (λ ys p.
        gives _ (each_joined (At (m + 62)) (take x ds) (ys ++ drop y ds) (stay (take x ds) (each_take (At m) x ds a)) (each_joined (At (m + 62)) ys (drop y ds) p (stay (drop y ds) (each_drop (At m) y ds a)))))

    first_fine : Fine c (Each (At (m + 62))) (on_first (moved mask closed move) ds)
    unfolding on_first
    first_fine = between_fine 0 1

    last_date_fine : Fine c (Each (At (m + 62))) (on_last (moved mask closed move) ds)
    unfolding on_last
    last_date_fine = between_fine (length ds - 1) (length ds)

    middle_fine : Fine c (Each (At (m + 62))) (on_middle (moved mask closed move) ds)
    unfolding on_middle
    middle_fine = between_fine 1 (1 + (length ds - 2))

  -- ---- all of it
  stays : (ds : List ℕ) → Each (At 0) ds → Fine c (Each (At 62)) (given ds)
  stays ds a = gives ds (each_weaker (At 0) (At 62) ds (λ d i. at_more 0 62 d (omega arith) i) a)

  wednesdays_fine : (rule : Rule) (mask : ℕ) (closed ds : List ℕ) → Each (At 0) ds → Fine c (Each (At 62)) (wednesdays rule mask closed ds)
  unfolding wednesdays wednesdays_by
  wednesdays_fine rule mask closed ds a = by (one_of rule (ThirdWednesday ∷ [])) (one_of rule (ThirdWednesdayInclusive ∷ []))
    where
      by : (middle all_of : Bool) → Fine c (Each (At 62)) (wednesdays_by middle all_of mask closed ds)
      by true all_of = middle_fine mask closed 0 (omega arith) ds a ThirdWednesdays to_wednesday
      by false true = all_fine mask closed 0 (omega arith) ds a ThirdWednesdays to_wednesday
      by false false = stays ds a

  seed_fine : (b : Bool) (mask : ℕ) (closed : List ℕ) (seed : ℕ) → (b ≡ true → c) → SeedIs seed → Fine c Any (seed_at_end b mask closed seed)
  unfolding seed_at_end seed_asked
  seed_fine false mask closed seed h s = gives false tt
  seed_fine true mask closed seed h none = gives false tt
  seed_fine true mask closed seed h (some zero a) = gives false tt
  seed_fine true mask closed seed h (some (suc n) a) = end_fine 0 (suc n) (omega arith) a mask closed (h refl)

  front_fine : (b : Bool) (ds fs : List ℕ) → Fine c Any (merge_front_if b ds fs)
  unfolding merge_front_if
  front_fine false ds fs = gives _ tt
  front_fine true ds fs = other COLLAPSED (by_merge refl) (leb 3 (length ds)) (gives _ tt)

  module _ (q : Request) (closed : List ℕ) (seed : ℕ) (convention : Asks c q.convention) (terminal : Asks c q.terminal) (monthend : q.monthend ≡ true → c) where
    adjustments_fine : (ds : List ℕ) → SeedIs seed → Each (At 62) ds → Fine c Any (adjustments q closed seed ds)
    unfolding adjustments first_move last_move
    adjustments_fine ds s a =
        steps _ (first_fine q.mask closed 62 (omega arith) ds a _ (unless_asks (is_old_cds (rule_in_force q)) q.convention convention)) (λ ds₁ a₁.
        steps _ (last_date_fine q.mask closed 124 (omega arith) ds₁ a₁ _ (unless_asks (is_credit (rule_in_force q)) q.terminal terminal)) (λ ds₂ a₂.
        steps _ (seed_fine q.monthend q.mask closed seed monthend s) (λ end e.
        weaker (middle_fine q.mask closed 186 (omega arith) ds₂ a₂ (middle_move end q.convention) (middle_asks end q.convention convention)) (λ l p. tt))))

    pub finish_fine : (ds fs : List ℕ) → SeedIs seed → Each (At 0) ds → Fine c Any (finish q closed seed ds fs)
    unfolding finish merge_front
    finish_fine ds fs s a =
        steps _ (wednesdays_fine (rule_in_force q) q.mask closed ds a) (λ ds₁ a₁.
        steps _ (adjustments_fine ds₁ s a₁) (λ ds₂ _.
        front_fine (meet_at_front (merge_end ds₂ fs).dates) (merge_end ds₂ fs).dates (merge_end ds₂ fs).flags))
