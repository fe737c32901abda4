-- A law for each way through the functions that fill in the paid dates.
-- Assumes nothing.
use mathlib.Core.Path.{◌≡◌, refl, sym, ap, ◌∙◌, subst}
use mathlib.Core.Bool.{Bool, true, false, false≢true, ◌||◌}
use denote.Enum.Declared.{tag_of}
use types.Run.{OneOf}
use mathlib.Core.List.{List, [], ◌∷◌, ◌++◌}
use mathlib.Core.Logic.{⊎_elim, inl, inr}
use Prim.Native.Nat.{ℕ, zero, suc, ◌+◌, ◌-◌, ◌≤◌, ◌<◌, min, max}
use native.Mathlib.Omega.{arith}
use lib.ListN.{length, get_or, set, take, drop, length-drop}
use lib.Dec.{eqb}
use lib.Seq.{drop-drop, drop_at, take_at, take-take, take-nil, drop-nil, length-take-le}
use borrow.Author.Tests.{eq-eqb, ne_eqb, eqb-true}
use Rattle.refusal.specs.Answer.{Answer, given, refused, answered, then}
use Rattle.refusal.specs.Laws.Answers.{then_given, then_refused, then_stepped, one_given}
use Rattle.date.specs.declared.Date.{Date}
use Rattle.date.specs.Date.{dated}
use Rattle.date.specs.Laws.Made.{given_day, refused_day}
use Rattle.std.specs.Prelude.{Result, Ok, Err}
use Rattle.refusal.specs.declared.Refusal.{Refusal}
use Rattle.refusal.specs.Refusals.{number_of}
use Rattle.calendar.specs.declared.Convention.{Convention}
use Rattle.calendar.specs.Open.{closed_ok}
use Rattle.calendar.specs.Inner.Always.{convention_on, on_as}
use Rattle.calendar.specs.Adjust.{adjusted}
use Rattle.steps.specs.declared.Move.{Move}
use Rattle.steps.specs.declared.Move.TheVariants.{Stay, Adjust}
use Rattle.steps.specs.declared.Rule.{Rule}
use Rattle.steps.specs.declared.Rule.TheVariants.{ThirdWednesday, ThirdWednesdayInclusive}
use Rattle.steps.specs.contracts.Rule.{the_type}
use Rattle.steps.specs.Laws.Rules.{agree, keep, keys_of, tags_are, told}
use Rattle.steps.specs.declared.Request.{Request}
use Rattle.steps.specs.declared.Sure.{Sure}
use Rattle.steps.specs.Rules.{rules, rule_number, one_of, rule_in_force, is_credit, is_old_cds}
use Rattle.steps.specs.Finish.{each, moved, on_last, unless, first_move, last_move, middle_move, seed_at_end, adjustments, wednesdays_by, wednesdays}
use Rattle.steps.specs.Entries.{pairs_of}
use Rattle.steps.specs.Inner.Same.{same_convention, same_equal}
use Rattle.steps.specs.Inner.Sure.{Surely}
use Rattle.steps.specs.Laws.Parts.{each_moved, moved_on, as_many}
use Rattle.finish.specs.declared.Paid.{Paid}
use Rattle.finish.specs.Moving.{Done, done, pairs}
use Rattle.finish.specs.Paying.{pay_between, PaidAlready, Narrowed, FirstPaid, LastPaid, LastKnown, LastKept, paid_if, still_paid, pay_last_of, pay_last, pay_middle, paying}
use Rattle.finish.specs.Laws.Paying.{pay_one, paid_stays, pay_around, paying_is}
use Rattle.finish.proofs.Moves.{done_refused, done_on}

-- ---- which of the middle dates are paid
module _ (n last from to : ℕ) (known : Paid) (l : last ≡ 1 + (n - 2)) (f : from ≡ max known.from 1) (t : to ≡ min known.to last) where
  pub narrowed_some : from < to → Narrowed n known (record { from = from; to = to })
  narrowed_some h = record { first = omega arith; order = omega arith; last = omega arith; among = inr (omega arith, omega arith) }

pub narrowed_none : (n last : ℕ) (known : Paid) → last ≡ 1 + (n - 2) → Narrowed n known (record { from = last; to = last })
narrowed_none n last known l = record { first = omega arith; order = omega arith; last = omega arith; among = inl refl }

-- none is paid where there is none
pub none_paid : (f : ℕ → Answer ℕ) (a : ℕ) (ds ps : List ℕ) → PaidAlready f a a ds ps
unfolding each
none_paid f a ds ps = let z : a - a ≡ 0 = omega arith in record { so = rw z refl }

-- and nothing is to be filled in
pub pays_none : (f : ℕ → Answer ℕ) (a b : ℕ) (ds ps : List ℕ) → a ≡ b → b ≤ length ds → length ds ≡ length ps → done (Ok tt) ps ≡ pay_between f a b ds ps
unfolding done
pays_none f a b ds ps e h even = rw (← e) (sym (paid_stays f ds ps a a a (omega arith) (omega arith) (omega (arith, e, h)) even (none_paid f a ds ps)))

-- ---- one date
module _ (f : ℕ → Answer ℕ) (at : ℕ) (ds ps : List ℕ) (h : at < length ds) (even : length ds ≡ length ps) (next : Result Date Refusal) (p : dated next ≡ f (get_or ds at 0)) where
  pub one_moved : (date : Date) → next ≡ Ok date → done (Ok tt) (set ps at date.day) ≡ pay_between f at (at + 1) ds ps
  unfolding done
  one_moved date e = sym (pay_one f ds ps at h even ∙ sym (then_given _ date.day _ _ (given_day next date _ p e) refl))

  pub one_refused : (r : Refusal) → next ≡ Err r → refused (number_of r) ≡ pay_between f at (at + 1) ds ps
  one_refused r e = sym (pay_one f ds ps at h even ∙ sym (then_refused _ (number_of r) _ (refused_day next r _ p e)))

-- some of those that are paid
module _ (f : ℕ → Answer ℕ) where
  each_take : (xs ys : List ℕ) (m : ℕ) → each f xs ≡ given ys → each f (take m xs) ≡ given (take m ys)
  unfolding each
  each_take [] ys m h = let e : ys ≡ [] = cc in rw (e, take-nil {A = ℕ} m) refl
  each_take (x ∷ xs) ys zero h = refl
  each_take (x ∷ xs) ys (suc m) h =
      let k = each_moved f x xs ys h in
      rw k.so (moved_on f x k.first (take m xs) (take m k.others) k.first_moved (each_take xs k.others m k.others_moved))

  each_drop : (xs ys : List ℕ) (m : ℕ) → each f xs ≡ given ys → each f (drop m xs) ≡ given (drop m ys)
  unfolding each
  each_drop [] ys m h = let e : ys ≡ [] = cc in rw (e, drop-nil {A = ℕ} m) refl
  each_drop (x ∷ xs) ys zero h = h
  each_drop (x ∷ xs) ys (suc m) h = let k = each_moved f x xs ys h in rw k.so (each_drop xs k.others m k.others_moved)

-- a part of the front of a list is that part of the list
front_part : (l : List ℕ) (n k m : ℕ) → k + m ≤ n → take m (drop k (take n l)) ≡ take m (drop k l)
front_part l n zero m h = take-take m n l (omega arith)
front_part [] n (suc k) m h = rw (take-nil {A = ℕ} n) refl
front_part (x ∷ l) zero (suc k) m h = let bad : ⊥ = omega arith in absurd bad
front_part (x ∷ l) (suc n) (suc k) m h = front_part l n k m (omega arith)

module _ (f : ℕ → Answer ℕ) (ds ps : List ℕ) where
  part_paid : (a b c d : ℕ) → a ≤ c → c ≤ d → d ≤ b → PaidAlready f a b ds ps → PaidAlready f c d ds ps
  part_paid a b c d ac cd db p =
      let k : a + (c - a) ≡ c = omega arith in
      let fits : (c - a) + (d - c) ≤ b - a = omega arith in
      let part = each_take f (drop (c - a) (take (b - a) (drop a ds))) (drop (c - a) (take (b - a) (drop a ps))) (d - c) (each_drop f (take (b - a) (drop a ds)) (take (b - a) (drop a ps)) (c - a) p.so) in
      record {
        so = rw (front_part (drop a ds) (b - a) (c - a) (d - c) fits, front_part (drop a ps) (b - a) (c - a) (d - c) fits, drop-drop (c - a) a ds, drop-drop (c - a) a ps, k) at part;
      }

  pub narrowed_paid : (n : ℕ) (known r : Paid) → PaidAlready f known.from known.to ds ps → Narrowed n known r → PaidAlready f r.from r.to ds ps
  unfolding each
  narrowed_paid n known r p w = ⊎_elim none (λ b. part_paid known.from known.to r.from r.to b.0 w.order b.1 p) w.among
    where
      none : r.from ≡ r.to → PaidAlready f r.from r.to ds ps
      none e = let z : r.to - r.from ≡ 0 = omega arith in record { so = rw z refl }

-- ---- they stay paid while the ends are
paid_by : (f : ℕ → Answer ℕ) (a b : ℕ) (ds ps ps' : List ℕ) → take (b - a) (drop a ps') ≡ take (b - a) (drop a ps) → PaidAlready f a b ds ps → PaidAlready f a b ds ps'
paid_by f a b ds ps ps' e p = record { so = p.so ∙ ap given (sym e) }

module _ (f g : ℕ → Answer ℕ) (a b : ℕ) (ds ps ps' : List ℕ) (even : length ds ≡ length ps) where
  record Filled (i j : ℕ) : Type 0 where
    made : List ℕ
    many : length made ≡ j - i
    so : ps' ≡ take i ps ++ (made ++ drop j ps)

  filled_by : (i j : ℕ) → i ≤ j → j ≤ length ds → given ps' ≡ pay_between g i j ds ps → Filled i j
  unfolding pay_between
  filled_by i j o h e =
      let s = then_stepped (each g (take (j - i) (drop i ds))) (λ ys. given (take i ps ++ (ys ++ drop j ps))) ps' (sym e) in
      let t : given (take i ps ++ (s.value ++ drop j ps)) ≡ given ps' = s.to in
      record {
        made = s.value;
        many = as_many g (take (j - i) (drop i ds)) s.value s.from ∙ length-take-le (j - i) (drop i ds) (omega (arith, length-drop i ds));
        so = one_given (given ps') ps' _ refl (sym t);
      }

  pub after_first : 1 ≤ length ds → 1 ≤ a → given ps' ≡ pay_between g 0 1 ds ps → PaidAlready f a b ds ps → PaidAlready f a b ds ps'
  after_first some h e p =
      let c = filled_by 0 1 (omega arith) some e in
      let k : 1 + (a - 1) ≡ a = omega arith in
      let d : drop 1 ps' ≡ drop 1 ps = ap (drop 1) c.so ∙ drop_at c.made (drop 1 ps) 1 c.many in
      let x : drop a ps' ≡ drop a ps = ap (λ (n : ℕ). drop n ps') (sym k) ∙ sym (drop-drop (a - 1) 1 ps') ∙ ap (drop (a - 1)) d ∙ drop-drop (a - 1) 1 ps ∙ ap (λ (n : ℕ). drop n ps) k in
      paid_by f a b ds ps ps' (rw x refl) p

  after_later : (i j : ℕ) → i ≤ j → j ≤ length ds → a ≤ b → b ≤ i → given ps' ≡ pay_between g i j ds ps → PaidAlready f a b ds ps → PaidAlready f a b ds ps'
  after_later i j o h ab bi e p =
      let c = filled_by i j o h e in
      let t : take i ps' ≡ take i ps = ap (take i) c.so ∙ take_at (take i ps) (c.made ++ drop j ps) i (length-take-le i ps (omega arith)) in
      let fits : a + (b - a) ≤ i = omega arith in
      let x : take (b - a) (drop a ps') ≡ take (b - a) (drop a ps) = sym (front_part ps' i a (b - a) fits) ∙ ap (λ (l : List ℕ). take (b - a) (drop a l)) t ∙ front_part ps i a (b - a) fits in
      paid_by f a b ds ps ps' x p

pub after_last : (q : Request) (closed : List ℕ) (f : ℕ → Answer ℕ) (a b : ℕ) (ds ps ps' : List ℕ) → length ds ≡ length ps → 1 ≤ length ds → 1 ≤ a → a ≤ b → b ≤ 1 + (length ds - 2) → given ps' ≡ pay_last q closed ds ps → PaidAlready f a b ds ps → PaidAlready f a b ds ps'
unfolding pay_last pay_last_of each
after_last q closed f a b ds ps ps' even some one ab few e p = by (eqb (length ds) 1) refl
  where
    by : (t : Bool) → eqb (length ds) 1 ≡ t → PaidAlready f a b ds ps'
    by true t =
        let n : length ds ≡ 1 = eqb-true _ _ t in
        let z : b - a ≡ 0 = omega arith in
        record { so = rw z refl }
    by false t =
        let n : length ds ≡ 1 → ⊥ = λ h. false≢true (sym t ∙ eq-eqb (length ds) 1 h) in
        after_later f (moved q.mask closed (last_move q)) a b ds ps ps' even (length ds - 1) (length ds) (omega arith) (omega arith) ab (omega (arith, n)) (rw t at e) p

-- ---- the middle dates that are not paid yet
module _ (f : ℕ → Answer ℕ) (known : Paid) (work paid : List ℕ) (end : ℕ) (even : length work ≡ length paid) (some : 1 ≤ length work) (first : 1 ≤ known.from) (order : known.from ≤ known.to) (last : known.to ≤ 1 + (length work - 2)) (at : end ≡ 1 + (length work - 2)) (p : PaidAlready f known.from known.to work paid) (r : Done) (paid₁ : List ℕ) (d : done r paid₁ ≡ pay_between f 1 known.from work paid) where
  around : pay_between f 1 (1 + (length work - 2)) work paid ≡ then (pay_between f 1 known.from work paid) (pay_between f known.to (1 + (length work - 2)) work)
  around = pay_around f work paid 1 known.from known.to (1 + (length work - 2)) first order last (omega arith) even p

  pub unpaid_refused : (n : Refusal) → r ≡ Err n → refused (number_of n) ≡ pay_between f 1 (1 + (length work - 2)) work paid
  unpaid_refused n e = done_refused (pay_between f known.to (1 + (length work - 2)) work) _ r paid₁ d n e ∙ sym around

  pub unpaid_on : (u : Unit {0}) (t : Done) (paid₂ : List ℕ) → r ≡ Ok u → done t paid₂ ≡ pay_between f known.to end work paid₁ → done t paid₂ ≡ pay_between f 1 (1 + (length work - 2)) work paid
  unpaid_on u t paid₂ e h = done_on (pay_between f known.to (1 + (length work - 2)) work) _ r paid₁ d u _ e (rw at at h) ∙ sym around

-- ---- the middle dates
-- two conventions that adjust every day alike move it alike
move_alike : (mask : ℕ) (closed : List ℕ) (a b : Convention) → adjusted mask closed a ≡ adjusted mask closed b → moved mask closed (middle_move false a) ≡ adjusted mask closed b
unfolding moved middle_move
move_alike mask closed a b e = λ i day. e i day

as_adjusted : (mask : ℕ) (closed : List ℕ) (convention : Convention) → moved mask closed (middle_move false convention) ≡ adjusted mask closed convention
unfolding moved middle_move
as_adjusted mask closed convention = refl

module _ (q : Request) (closed : List ℕ) (seed : ℕ) (work paid : List ℕ) (end : Result Bool Refusal) (p : closed_ok closed ≡ true → answered end ≡ seed_at_end q.monthend q.mask closed seed) (ok : closed_ok closed ≡ true) where
  pub seed_refused : (n : Refusal) → end ≡ Err n → refused (number_of n) ≡ pay_middle q closed seed work paid
  unfolding pay_middle then
  seed_refused n e = rw (← p ok, e)

  pub at_month_ends : (what : Move) (at : ℕ) (r : Done) (paid₁ : List ℕ) → end ≡ Ok true → what ≡ middle_move true q.convention → at ≡ 1 + (length work - 2) → done r paid₁ ≡ pay_between (moved q.mask closed what) 1 at work paid → done r paid₁ ≡ pay_middle q closed seed work paid
  unfolding pay_middle then
  at_month_ends what at r paid₁ e w a h = rw (← p ok, e, ← w) (rw a at h)

  module _ (way : Convention) (on : way ≡ convention_on q.mask closed q.convention) (what : Move) (w : what ≡ middle_move false way) where
    alike : moved q.mask closed what ≡ adjusted q.mask closed q.convention
    alike = rw w (move_alike q.mask closed way q.convention (on_as q.mask closed way q.convention on))

    pub way_paid : (a b : ℕ) → PaidAlready (adjusted q.mask closed q.convention) a b work paid → PaidAlready (moved q.mask closed what) a b work paid
    way_paid a b k = subst (λ (g : ℕ → Answer ℕ). PaidAlready g a b work paid) (sym alike) k

    pub seed_within : (r : Done) (paid₁ : List ℕ) → end ≡ Ok false → done r paid₁ ≡ pay_between (moved q.mask closed what) 1 (1 + (length work - 2)) work paid → done r paid₁ ≡ pay_middle q closed seed work paid
    unfolding pay_middle then
    seed_within r paid₁ e h =
        rw (← p ok, e) (h ∙ ap (λ (g : ℕ → Answer ℕ). pay_between g 1 (1 + (length work - 2)) work paid) (alike ∙ sym (as_adjusted q.mask closed q.convention)))

-- ---- the last date
adjusts : (mask : ℕ) (closed : List ℕ) (convention : Convention) (what : Move) → what ≡ Adjust convention → moved mask closed what ≡ adjusted mask closed convention
unfolding moved
adjusts mask closed convention what e = rw e refl

never_stays : (what : Move) (convention : Convention) → what ≡ Adjust convention → what ≡ Stay → ⊥
never_stays what convention e h = let z : ◌≡◌ {A = ℕ} 0 1 = cc in omega arith

-- a first or last date that is moved is adjusted
unless_adjusts : (mask : ℕ) (closed : List ℕ) (stays : Bool) (convention : Convention) → (unless stays convention ≡ Stay → ⊥) → moved mask closed (unless stays convention) ≡ adjusted mask closed convention
unfolding unless moved
unless_adjusts mask closed true convention h = absurd (h refl)
unless_adjusts mask closed false convention h = refl

pub last_paid : (what : Move) (terminal convention : Convention) (known : Paid) (n : ℕ) → what ≡ Adjust terminal → same_convention terminal convention ≡ true → known.from < n → n ≤ known.to → LastPaid convention what known n
last_paid what terminal convention known n e s from to =
    record { from = from; to = to; moves = e ∙ ap Adjust (same_equal terminal convention s) }

-- the first date that is filled in leaves the last
pub last_kept : (f g : ℕ → Answer ℕ) (known : Paid) (ds ps ps' : List ℕ) → length ds ≡ length ps → given ps' ≡ pay_between g 0 1 ds ps → PaidAlready f known.from known.to ds ps → LastKept f known ds ps'
last_kept f g known ds ps ps' even e p =
    record {
      kept =
          λ from to two. after_first f g (length ds - 1) (length ds) ds ps ps' even (omega arith) (omega arith) e (part_paid f ds ps known.from known.to (length ds - 1) (length ds) (omega arith) (omega arith) to p);
    }

pub last_stays : (q : Request) (closed work paid : List ℕ) (what : Move) → what ≡ last_move q → (known : Paid) → (length work ≡ 1 → ⊥) → 1 ≤ length work → length work ≡ length paid → LastPaid q.convention what known (length work) → LastKept (adjusted q.mask closed q.convention) known work paid → done (Ok tt) paid ≡ pay_last q closed work paid
unfolding pay_last pay_last_of done
last_stays q closed work paid what w known e some even l k =
    let p = k.kept l.from l.to (omega (arith, e)) in
    let stays = paid_stays _ work paid 0 (length work - 1) (length work) (omega arith) (omega arith) (omega arith) even p in
    let alike : moved q.mask closed what ≡ adjusted q.mask closed q.convention = adjusts q.mask closed q.convention what l.moves in
    rw (ne_eqb (length work) 1 e, ← w)
    (sym (ap (λ (g : ℕ → Answer ℕ). pay_between g (length work - 1) (length work) work paid) alike ∙ stays))

-- a place that is filled with what its date adjusts to
one_filled : (f : ℕ → Answer ℕ) (ds ps : List ℕ) (k n y : ℕ) → n ≡ suc k → k < length ds → length ds ≡ length ps → f (get_or ds k 0) ≡ given y → pay_between f k n ds ps ≡ given (set ps k y)
one_filled f ds ps k n y e h even m =
    let s : n ≡ k + 1 = omega arith in
    rw s (pay_one f ds ps k h even ∙ sym (then_given _ y _ _ m refl))

pub known_last : (what : Move) (convention : Convention) (last : Sure) (day : ℕ) → what ≡ Adjust convention → (last.paid ≡ 0 → ⊥) → last.day ≡ day → LastKnown what last day
known_last what convention last day e known on = record { known = known; on = on; moves = never_stays what convention e }

pub last_known : (q : Request) (closed work paid : List ℕ) (what : Move) → what ≡ last_move q → (last : Sure) → (length work ≡ 1 → ⊥) → 1 ≤ length work → length work ≡ length paid → LastKnown what last (get_or work (length work - 1) 0) → Surely (adjusted q.mask closed q.terminal) last → done (Ok tt) (set paid (length work - 1) last.paid) ≡ pay_last q closed work paid
unfolding pay_last pay_last_of done last_move
last_known q closed work paid what w last e some even l s =
    let day : adjusted q.mask closed q.terminal (get_or work (length work - 1) 0) ≡ given last.paid = rw l.on at (s.so l.known) in
    let alike = unless_adjusts q.mask closed (is_credit (rule_in_force q)) q.terminal (λ h. l.moves (w ∙ h)) in
    rw (ne_eqb (length work) 1 e, alike)
    (sym (one_filled _ work paid (length work - 1) (length work) last.paid (omega arith) (omega arith) even day))

module _ (q : Request) (closed work paid : List ℕ) (what : Move) (w : what ≡ last_move q) (r : Done) (paid₁ : List ℕ) where
  pub last_alone : length work ≡ 1 → done r paid₁ ≡ on_last (moved q.mask closed what) paid → done r paid₁ ≡ pay_last q closed work paid
  unfolding pay_last pay_last_of
  last_alone e h = rw (eq-eqb (length work) 1 e, ← w) h

  pub last_of_many : (length work ≡ 1 → ⊥) → 1 ≤ length work → done r paid₁ ≡ pay_between (moved q.mask closed what) (length work - 1) (length work - 1 + 1) work paid → done r paid₁ ≡ pay_last q closed work paid
  unfolding pay_last pay_last_of
  last_of_many e some h =
      let n : length work - 1 + 1 ≡ length work = omega arith in
      rw (ne_eqb (length work) 1 e, ← w) (rw n at h)

-- ---- the first date
pub first_paid : (what : Move) (convention : Convention) (known : Paid) → what ≡ Adjust convention → known.from ≡ 0 → 0 < known.to → FirstPaid what known
first_paid what convention known e from some =
    record { from = from; some = omega arith; moves = never_stays what convention e }

module _ (q : Request) (closed work paid : List ℕ) (some : 1 ≤ length work) (even : length work ≡ length paid) (what : Move) (w : what ≡ first_move q) where
  pub first_stays : (known : Paid) → FirstPaid what known → PaidAlready (adjusted q.mask closed q.convention) known.from known.to work paid → done (Ok tt) paid ≡ pay_between (moved q.mask closed (first_move q)) 0 1 work paid
  unfolding done first_move
  first_stays known f p =
      let e = unless_adjusts q.mask closed (is_old_cds (rule_in_force q)) q.convention (λ h. f.moves (w ∙ h)) in
      let from = f.from in
      let one = part_paid _ work paid known.from known.to 0 1 (omega arith) (omega arith) f.some p in
      rw e (sym (paid_stays _ work paid 0 0 1 (omega arith) (omega arith) some even one))

  pub first_moves : (r : Done) (paid₁ : List ℕ) → done r paid₁ ≡ pay_between (moved q.mask closed what) 0 1 work paid → done r paid₁ ≡ pay_between (moved q.mask closed (first_move q)) 0 1 work paid
  first_moves r paid₁ d = rw w at d

-- ---- all of them
module _ (q : Request) (closed : List ℕ) (seed : ℕ) (work paid : List ℕ) (some : 1 ≤ length work) (even : length work ≡ length paid) (r : Done) (paid₁ : List ℕ) (d : done r paid₁ ≡ pay_between (moved q.mask closed (first_move q)) 0 1 work paid) where
  whole : paying q closed seed work paid ≡ adjustments q closed seed work
  whole = paying_is q closed seed work paid some even

  pub dates_refused : (n : Refusal) → r ≡ Err n → refused (number_of n) ≡ adjustments q closed seed work
  unfolding paying
  dates_refused n e = done_refused _ _ r paid₁ d n e ∙ whole

  pub dates_kept : (u : Unit {0}) (f : ℕ → Answer ℕ) (known : Paid) → r ≡ Ok u → PaidAlready f known.from known.to work paid → LastKept f known work paid₁
  unfolding done
  dates_kept u f known e p = last_kept f (moved q.mask closed (first_move q)) known work paid paid₁ even (rw e at d) p

  module _ (u : Unit {0}) (e : r ≡ Ok u) (t : Done) (paid₂ : List ℕ) (l : done t paid₂ ≡ pay_last q closed work paid₁) where
    pub dates_last_refused : (n : Refusal) → t ≡ Err n → refused (number_of n) ≡ adjustments q closed seed work
    unfolding paying
    dates_last_refused n h = done_on _ _ r paid₁ d u _ e (done_refused (pay_middle q closed seed work) _ t paid₂ l n h) ∙ whole

    pub dates_on : (v : Unit {0}) (w : Done) (paid₃ : List ℕ) → t ≡ Ok v → done w paid₃ ≡ pay_middle q closed seed work paid₂ → done w paid₃ ≡ adjustments q closed seed work
    unfolding paying
    dates_on v w paid₃ h m = done_on _ _ r paid₁ d u _ e (done_on (pay_middle q closed seed work) _ t paid₂ l v _ h m) ∙ whole

    -- those that were paid still are
    pub among_paid : (v : Unit {0}) (n : ℕ) (known among : Paid) → t ≡ Ok v → n ≡ length work → Narrowed n known among → length paid₁ ≡ length paid → (f : ℕ → Answer ℕ) → PaidAlready f known.from known.to work paid → PaidAlready f among.from among.to work paid₂
    unfolding done
    among_paid v n known among h size narrow long f p =
        let one : given paid₁ ≡ pay_between (moved q.mask closed (first_move q)) 0 1 work paid = rw e at d in
        let two : given paid₂ ≡ pay_last q closed work paid₁ = rw h at l in
        let a = narrowed_paid f work paid n known among p narrow in
        let b = after_first f _ among.from among.to work paid paid₁ even some narrow.first one a in
        after_last q closed f among.from among.to work paid₁ paid₂ (even ∙ sym long) some narrow.first narrow.order (rw size at narrow.last) two b

-- ---- both dates of each entry
-- under a rule of third Wednesdays none is paid, under every other the dates stayed
module _ (rule : Rule) (known : Paid) where
  pub still_middle : rule ≡ ThirdWednesday → record { from = 0; to = 0 } ≡ still_paid rule known
  unfolding still_paid paid_if one_of rule_number
  still_middle e = rw e refl

  pub still_all : rule ≡ ThirdWednesdayInclusive → record { from = 0; to = 0 } ≡ still_paid rule known
  unfolding still_paid paid_if one_of rule_number
  still_all e = rw e refl

  pub still_other : OneOf (0 ∷ 1 ∷ 2 ∷ 3 ∷ 4 ∷ 7 ∷ 8 ∷ 9 ∷ []) (tag_of the_type rule) → known ≡ still_paid rule known
  unfolding still_paid paid_if one_of rule_number rules agree keep keys_of tags_are
  still_other k =
      let e : false ≡ (one_of rule (ThirdWednesday ∷ []) || one_of rule (ThirdWednesdayInclusive ∷ [])) = told (tag_of the_type) refl (λ a. one_of a (ThirdWednesday ∷ []) || one_of a (ThirdWednesdayInclusive ∷ [])) false rule k in
      rw (← e) refl

by_wednesdays : (a b : Bool) (f : ℕ → Answer ℕ) (known : Paid) (mask : ℕ) (closed ds g ps : List ℕ) → given g ≡ wednesdays_by a b mask closed ds → PaidAlready f known.from known.to ds ps → PaidAlready f (paid_if (a || b) known).from (paid_if (a || b) known).to g ps
unfolding paid_if wednesdays_by
by_wednesdays true b f known mask closed ds g ps h p = none_paid f 0 g ps
by_wednesdays false true f known mask closed ds g ps h p = none_paid f 0 g ps
by_wednesdays false false f known mask closed ds g ps h p =
    let e : g ≡ ds = one_given (given g) g ds refl h in
    rw e p

paid_on : (t : Done) (paid g : List ℕ) (o : Answer (List ℕ)) → done t paid ≡ o → done t (pairs g paid) ≡ then o (λ p. given (pairs g p))
unfolding done then
paid_on (Ok u) paid g o h = rw (← h) refl
paid_on (Err n) paid g o h = rw (← h) refl

module _ (q : Request) (closed : List ℕ) (seed : ℕ) (ds ds₁ : List ℕ) (rule : Rule) (f : rule ≡ rule_in_force q) (r : Done) (d : done r ds₁ ≡ wednesdays rule q.mask closed ds) where
  pub pairs_refused : (n : Refusal) → r ≡ Err n → refused (number_of n) ≡ pairs_of q closed seed ds
  unfolding pairs_of
  pairs_refused n e = done_refused (λ g. then (adjustments q closed seed g) (λ p. given (pairs g p))) _ r ds₁ (rw f at d) n e

  module _ (u : Unit {0}) (e : r ≡ Ok u) where
    pub pairs_paid : (A : ℕ → Answer ℕ) (known known' : Paid) (ps : List ℕ) → known' ≡ still_paid rule known → PaidAlready A known.from known.to ds ps → PaidAlready A known'.from known'.to ds₁ ps
    unfolding still_paid wednesdays done
    pairs_paid A known known' ps k p =
        let h : given ds₁ ≡ wednesdays_by (one_of rule (ThirdWednesday ∷ [])) (one_of rule (ThirdWednesdayInclusive ∷ [])) q.mask closed ds = rw e at d in
        rw k (by_wednesdays (one_of rule (ThirdWednesday ∷ [])) (one_of rule (ThirdWednesdayInclusive ∷ [])) A known q.mask closed ds ds₁ ps h p)

    pub pairs_on : (t : Done) (paid : List ℕ) → done t paid ≡ adjustments q closed seed ds₁ → done t (pairs ds₁ paid) ≡ pairs_of q closed seed ds
    unfolding pairs_of
    pairs_on t paid h =
        done_on (λ g. then (adjustments q closed seed g) (λ p. given (pairs g p))) _ r ds₁ (rw f at d) u _ e (paid_on t paid ds₁ _ h)
