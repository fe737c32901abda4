-- Dates moved in place: the invariant of the loop, and a law for each way through it.
-- Assumes nothing.
use mathlib.Core.Path.{◌≡◌, refl, ap, sym, ◌∙◌}
use mathlib.Core.Bool.{Bool, true, false, false≢true, not, ◌&&◌}
use mathlib.Core.List.{List, [], ◌∷◌, ◌++◌, append-nil}
use Prim.Native.Nat.{ℕ, suc, ◌+◌, ◌-◌, ◌≤◌, ◌<◌}
use native.Mathlib.Numerals.{add-one}
use native.Mathlib.Omega.{arith}
use lib.ListN.{length, get_or, take, drop, set, length-set, drop_of_length-le, take-append-drop}
use lib.Seq.{append_snoc, drop-cons, take_all, take-suc-set, drop-set-lt}
use borrow.Author.Rules.{rules as search_rules}
use borrow.Rule.Slice.PartMut.{put_mid, Post-is}
use denote.Enum.Declared.{tag_of}
use types.Run.{OneOf}
use Rattle.refusal.specs.Answer.{Answer, given, refused, then}
use Rattle.std.specs.Prelude.{Result, Ok, Err, IsErr, IsErrAnd}
use Rattle.refusal.specs.declared.Refusal.{Refusal}
use Rattle.refusal.specs.Refusals.{number_of}
use Rattle.date.specs.declared.Date.{Date}
use Rattle.date.specs.Date.{dated}
use Rattle.date.specs.Laws.Made.{given_day, refused_day}
use Rattle.calendar.specs.Open.{closed_ok}
use Rattle.steps.specs.declared.Move.{Move}
use Rattle.steps.specs.declared.Move.TheVariants.{ThirdWednesdays}
use Rattle.steps.specs.declared.Rule.{Rule}
use Rattle.steps.specs.declared.Rule.TheVariants.{ThirdWednesday, ThirdWednesdayInclusive}
use Rattle.steps.specs.Rules.{rules, rule_number, one_of}
use Rattle.steps.specs.Laws.Rules.{agree, keep, keys_of, tags_are, told}
use Rattle.steps.specs.contracts.Rule.{the_type}
use Rattle.steps.specs.Finish.{moved, each, between, on_last, on_middle, wednesdays_by, wednesdays}
use Rattle.finish.specs.Moving.{Done, done}
use Rattle.finish.specs.Paying.{pay_between}

-- the first i of one list stand, the rest is still to be made of another
unfoldable pub rest : (ℕ → Answer ℕ) → ℕ → List ℕ → List ℕ → Answer (List ℕ)
rest f i src dst = then (each f (drop i src)) (λ ys. given (take i dst ++ ys))

-- what `?` hands on
pub handed_done : {A : Type 0} (d : Done) (r : Refusal) (left : A) → IsErr d × IsErrAnd d (λ k. k ≡ r) → done d left ≡ refused (number_of r)
unfolding done
handed_done (Ok u) r left h = absurd (false≢true h.0)
handed_done (Err k) r left h = rw h.1 refl

then_same : (a : Answer (List ℕ)) → then a (λ ys. given ys) ≡ a
unfolding then
then_same (given ys) = refl
then_same (refused n) = refl

one_on : (p : List ℕ) (y : ℕ) (a : Answer (List ℕ)) → then (then a (λ ys. given (y ∷ ys))) (λ zs. given (p ++ zs)) ≡ then a (λ ys. given ((p ++ (y ∷ [])) ++ ys))
unfolding then
one_on p y (given ys) = ap (λ (l : List ℕ). given l) (sym (append_snoc p y ys))
one_on p y (refused n) = refl

rest_all : (f : ℕ → Answer ℕ) (src dst : List ℕ) → rest f 0 src dst ≡ each f src
unfolding rest
rest_all f src dst = then_same (each f src)

module _ (f : ℕ → Answer ℕ) (src dst : List ℕ) (i : ℕ) where
  module _ (h : i < length src) where
    opened : rest f i src dst ≡ then (then (f (get_or src i 0)) (λ y. then (each f (drop (suc i) src)) (λ ys. given (y ∷ ys)))) (λ ys. given (take i dst ++ ys))
    unfolding rest each
    opened = rw (drop-cons src i 0 h)

    rest_refused : (n : ℕ) → f (get_or src i 0) ≡ refused n → rest f i src dst ≡ refused n
    unfolding then
    rest_refused n e = opened ∙ rw e

    after : (src' : List ℕ) (y : ℕ) → i < length dst → drop (suc i) src' ≡ drop (suc i) src → rest f (i + 1) src' (set dst i y) ≡ then (each f (drop (suc i) src)) (λ ys. given ((take i dst ++ (y ∷ [])) ++ ys))
    unfolding rest
    after src' y l d = rw (add-one i, d, take-suc-set dst i y l)

    rest_moved : (src' : List ℕ) (y : ℕ) → i < length dst → drop (suc i) src' ≡ drop (suc i) src → f (get_or src i 0) ≡ given y → rest f i src dst ≡ rest f (i + 1) src' (set dst i y)
    unfolding then
    rest_moved src' y l d e = opened ∙ rw e (one_on (take i dst) y (each f (drop (suc i) src)) ∙ sym (after src' y l d))

  rest_none : length src ≤ i → length dst ≤ i → rest f i src dst ≡ given dst
  unfolding rest each then
  rest_none h l = rw (drop_of_length-le src {i = i} h, append-nil, take_all i dst l)

-- ---- the loop in place
-- the first i dates of the list are moved
pub record InPlace (mask : ℕ) (closed : List ℕ) (what : Move) (s₀ s : List ℕ) (i : ℕ) : Type 0 where
  pub size : length s ≡ length s₀
  pub same : closed_ok closed ≡ true → rest (moved mask closed what) i s s ≡ each (moved mask closed what) s₀

pub in_place_none : (mask : ℕ) (closed : List ℕ) (what : Move) (s : List ℕ) → InPlace mask closed what s s 0
in_place_none mask closed what s = record { size = refl; same = λ ok. rest_all (moved mask closed what) s s }

module _ {mask : ℕ} {closed : List ℕ} {what : Move} {s₀ s : List ℕ} {i : ℕ} (u : InPlace mask closed what s₀ s i) where
  pub in_place_whole : length s ≤ i → closed_ok closed ≡ true → done (Ok tt) s ≡ each (moved mask closed what) s₀
  unfolding done
  in_place_whole h ok = sym (rest_none (moved mask closed what) s s i h h) ∙ u.same ok

  module _ (h : i < length s) (x : Result Date Refusal) (p : closed_ok closed ≡ true → dated x ≡ moved mask closed what (get_or s i 0)) where
    pub in_place_refused : (r : Refusal) (d : Done) → x ≡ Err r → IsErr d × IsErrAnd d (λ k. k ≡ r) → closed_ok closed ≡ true → done d s ≡ each (moved mask closed what) s₀
    unfolding done
    in_place_refused r d e t ok = handed_done d r s t ∙ sym (rest_refused (moved mask closed what) s s i h (number_of r) (refused_day x r _ (p ok) e)) ∙ u.same ok

    pub in_place_moved : (date : Date) → x ≡ Ok date → InPlace mask closed what s₀ (set s i date.day) (i + 1)
    in_place_moved date e =
        record {
          size = length-set s i date.day ∙ u.size;
          same = λ ok. sym (rest_moved (moved mask closed what) s s i h (set s i date.day) date.day h (drop-set-lt (suc i) s i date.day (omega arith)) (given_day x date _ (p ok) e)) ∙ u.same ok;
        }

pub ruleset moving = (in_place_none, in_place_whole, in_place_refused, in_place_moved, search_rules)

-- ---- the loop into another list, where the call answers as `f` says
-- the first i dates of the one list are moved into the other
pub record Beside (Says : (ℕ → Answer ℕ) → Type 0) (src dst₀ dst : List ℕ) (i : ℕ) : Type 0 where
  pub size : length dst ≡ length dst₀
  pub same : (f : ℕ → Answer ℕ) → Says f → rest f i src dst ≡ each f src

pub beside_none : (Says : (ℕ → Answer ℕ) → Type 0) (src dst : List ℕ) → Beside Says src dst dst 0
beside_none Says src dst = record { size = refl; same = λ f s. rest_all f src dst }

module _ {Says : (ℕ → Answer ℕ) → Type 0} {src dst₀ dst : List ℕ} {i : ℕ} (u : Beside Says src dst₀ dst i) (even : length src ≡ length dst₀) where
  pub beside_whole : length src ≤ i → (f : ℕ → Answer ℕ) → Says f → done (Ok tt) dst ≡ each f src
  unfolding done
  beside_whole h f s = sym (rest_none f src dst i h (let z = u.size in omega arith)) ∙ u.same f s

  module _ (h : i < length src) (x : Result Date Refusal) (p : (f : ℕ → Answer ℕ) → Says f → dated x ≡ f (get_or src i 0)) where
    pub beside_refused : (r : Refusal) (d : Done) → x ≡ Err r → IsErr d × IsErrAnd d (λ k. k ≡ r) → (f : ℕ → Answer ℕ) → Says f → done d dst ≡ each f src
    unfolding done
    beside_refused r d e t f s = handed_done d r dst t ∙ sym (rest_refused f src dst i h (number_of r) (refused_day x r _ (p f s) e)) ∙ u.same f s

    pub beside_moved : (date : Date) → x ≡ Ok date → Beside Says src dst₀ (set dst i date.day) (i + 1)
    beside_moved date e =
        let z = u.size in
        record {
          size = length-set dst i date.day ∙ z;
          same = λ f s. sym (rest_moved f src dst i h src date.day (omega arith) refl (given_day x date _ (p f s) e)) ∙ u.same f s;
        }

-- ---- a part
pub part_moved : {P : Type 0} (ok : P) (f : ℕ → Answer ℕ) (a b : ℕ) (s ys : List ℕ) (r : Done) → a ≤ b → (P → done r ys ≡ each f (take (b - a) (drop a s))) → done r (put_mid a (b - a) s ys) ≡ between f a b s
unfolding between done then
part_moved ok f a b s ys (Ok u) h e = rw (← e ok, Post-is a b s h)
part_moved ok f a b s ys (Err n) h e = rw (← e ok)

pub part_paid : {P : Type 0} (ok : P) (f : ℕ → Answer ℕ) (a b : ℕ) (work paid ys : List ℕ) (r : Done) → a ≤ b → (P → done r ys ≡ each f (take (b - a) (drop a work))) → done r (put_mid a (b - a) paid ys) ≡ pay_between f a b work paid
unfolding pay_between done then
part_paid ok f a b work paid ys (Ok u) h e = rw (← e ok, Post-is a b paid h)
part_paid ok f a b work paid ys (Err n) h e = rw (← e ok)

-- ---- the last, the middle
pub middle_none : (f : ℕ → Answer ℕ) (ds : List ℕ) → length ds < 2 → done (Ok tt) ds ≡ on_middle f ds
unfolding on_middle between done then each
middle_none f ds h =
    let a : length ds - 2 ≡ 0 = omega arith in
    rw (a, take-append-drop 1 ds)

pub middle_some : {P : Type 0} (ok : P) (f : ℕ → Answer ℕ) (ds ds' : List ℕ) (r : Done) → 2 ≤ length ds → (P → done r ds' ≡ between f 1 (length ds - 1) ds) → done r ds' ≡ on_middle f ds
unfolding on_middle
middle_some ok f ds ds' r h e =
    let a : 1 + (length ds - 2) ≡ length ds - 1 = omega arith in
    e ok ∙ rw a

pub last_some : {P : Type 0} (ok : P) (f : ℕ → Answer ℕ) (ds ds' : List ℕ) (r : Done) → (P → done r ds' ≡ between f (length ds - 1) (length ds) ds) → done r ds' ≡ on_last f ds
unfolding on_last
last_some ok f ds ds' r e = e ok

pub ruleset middles = (middle_none, middle_some, search_rules)

-- ---- the third Wednesdays
module _ {P : Type 0} (ok : P) (rule : Rule) (mask : ℕ) (closed ds ds' : List ℕ) (r : Done) where
  pub wednesdays_middle : rule ≡ ThirdWednesday → (P → done r ds' ≡ on_middle (moved mask closed ThirdWednesdays) ds) → done r ds' ≡ wednesdays rule mask closed ds
  unfolding wednesdays wednesdays_by one_of rule_number
  wednesdays_middle e h = rw e (h ok)

  pub wednesdays_all : rule ≡ ThirdWednesdayInclusive → (P → done r ds' ≡ each (moved mask closed ThirdWednesdays) ds) → done r ds' ≡ wednesdays rule mask closed ds
  unfolding wednesdays wednesdays_by one_of rule_number
  wednesdays_all e h = rw e (h ok)

-- under every other rule the dates stay
by_none : (a b : Bool) (mask : ℕ) (closed ds : List ℕ) → (not a && not b) ≡ true → given ds ≡ wednesdays_by a b mask closed ds
unfolding wednesdays_by
by_none true b mask closed ds h = absurd (false≢true h)
by_none false true mask closed ds h = absurd (false≢true h)
by_none false false mask closed ds h = refl

pub wednesdays_none : (rule : Rule) (mask : ℕ) (closed ds : List ℕ) → OneOf (0 ∷ 1 ∷ 2 ∷ 3 ∷ 4 ∷ 7 ∷ 8 ∷ 9 ∷ []) (tag_of the_type rule) → given ds ≡ wednesdays rule mask closed ds
unfolding wednesdays one_of rule_number rules agree keep keys_of tags_are
wednesdays_none rule mask closed ds k =
    by_none (one_of rule (ThirdWednesday ∷ [])) (one_of rule (ThirdWednesdayInclusive ∷ [])) mask closed ds
    (sym (told (tag_of the_type) refl (λ a. not (one_of a (ThirdWednesday ∷ [])) && not (one_of a (ThirdWednesdayInclusive ∷ []))) true rule k))

-- ---- one step after another
module _ {A : Type 0} (f : List ℕ → Answer A) (o : Answer (List ℕ)) (d : Done) (ds : List ℕ) (p : done d ds ≡ o) where
  pub done_refused : (r : Refusal) → d ≡ Err r → refused (number_of r) ≡ then o f
  unfolding done then
  done_refused r e = rw (← p, e)

  pub done_on : (u : Unit {0}) (x : Answer A) → d ≡ Ok u → x ≡ f ds → x ≡ then o f
  unfolding done then
  done_on u x e h = rw (← p, e) h
