-- A law for each way through the merge and through the writing of the combined list, in the code's terms.
-- Assumes nothing.
use Prim.Native.Nat.{ℕ, zero, suc, ◌+◌, ◌-◌, ◌≤◌, ◌<◌}
use mathlib.Core.Path.{◌≡◌, refl, sym, ap, ◌∙◌}
use mathlib.Core.Bool.{Bool, true, false}
use mathlib.Core.List.{List, [], ◌∷◌, ◌++◌, append_assoc}
use native.Mathlib.Nat.{le_antisymm}
use native.Mathlib.Numerals.{add-one}
use native.Mathlib.Omega.{arith}
use lib.Dec.{leb}
use lib.ListN.{length, get_or, take, drop, set, length-set, length-append, length-drop, take-append-drop}
use lib.Seq.{paste, length-paste, paste-zero, paste-suc, take_all, take_at, drop-append-add, drop-drop, get_or-take, get_or-drop, take-length, length-take-le}
use borrow.Author.Rules.{rules}
use borrow.Author.Tests.{leb-true, leb-false, le-leb}
use Rattle.date.specs.declared.Fields.{Fields}
use Rattle.date.specs.Civil.{day_number, fields_of}
use Rattle.date.specs.Date.{SPAN_FIRST, SPAN_LAST}
use Rattle.calendar.specs.Open.{ascending, closed_ok}
use Rattle.calendar.specs.Laws.Kept.{ok_at, checked_keeps}
use Rattle.calendar.specs.Inner.Places.{LowerBound}
use Rattle.desk.specs.Desk.{year_of, entries_in, in_years, has_none, combined}
use Rattle.desk.specs.Runs.{Turns}
use Rattle.desk.specs.Laws.Ascending.{asc, lower}
use Rattle.desk.specs.Laws.Combined.{ok_ascends}
use Rattle.desk.specs.Laws.Merged.{in_front_lem, passed_over, own_first, has_first, only_house, combined_few}
use Rattle.desk.specs.Laws.Years.{year_from, year_mono, year_is, year_below, year_above, year_start_lem, year_end, span_year}
use Rattle.desk.proofs.Ways.{last_fits, part_order}

-- ---- a turn
module _ (desk : List ℕ) (f : Fields) (p : closed_ok desk ≡ true) (s : 0 < length desk) (e : f ≡ fields_of (get_or desk 0 0)) where
  first_year_lem : year_of (get_or desk 0 0) ≡ f.year
  unfolding year_of
  first_year_lem = ap (λ (g : Fields). g.year) (sym e)

  pub first_in : in_years f.year ≡ true
  first_in =
      ap in_years (sym first_year_lem)
      ∙ span_year (get_or desk 0 0) ((checked_keeps desk p).from 0 s) ((checked_keeps desk p).to 0 s)

  pub first_ends : (last : ℕ) → (in_years f.year ≡ true → last ≡ day_number f.year 12 31) → last + 1 < 4294967296
  first_ends last l = last_fits f.year last first_in (l first_in)

module _ (desk house : List ℕ) (y first last front own next : ℕ) (p : closed_ok desk ≡ true) (q : closed_ok house ≡ true) (s : 0 < length desk) (is : year_of (get_or desk 0 0) ≡ y) (in_it_lem : in_years y ≡ true) (fi : first ≡ day_number y 1 1) (la : last ≡ day_number y 12 31) (lf : LowerBound house first front) (lo : LowerBound desk (last + 1) own) (ln : LowerBound house (last + 1) next) where
  one : 1 ≤ y
  one = omega (arith, year_from y in_it_lem)

  day_of_lem : (list : List ℕ) (k : ℕ) → closed_ok list ≡ true → k < length list → 1 ≤ get_or list k 0
  day_of_lem list k ok h = omega (arith, (checked_keeps list ok).from k h)

  late : (k : ℕ) → k < length desk → y ≤ year_of (get_or desk k 0)
  late zero h = omega (arith, is)
  late (suc k) h =
      omega (arith, is, year_mono (get_or desk 0 0) (get_or desk (suc k) 0) (omega (arith, ok_at desk 0 (suc k) p (omega arith) h)))

  order : front ≤ next
  order = part_order house y first last front next q in_it_lem fi la lf ln

  before_it : (k : ℕ) → k < front → year_of (get_or house k 0) < y
  before_it k h =
      year_below y (get_or house k 0) one (day_of_lem house k q (omega (arith, lf.within))) (omega (arith, (lf.below q).before k h))

  in_year : (k : ℕ) → k < next - front → year_of (get_or (drop front house) k 0) ≡ y
  in_year k h =
      let there : front + k < length house = omega (arith, ln.within) in
      ap year_of (get_or-drop front house k 0)
      ∙ year_is y (get_or house (front + k) 0) one (day_of_lem house (front + k) q there) (omega (arith, lf.from q (front + k) (omega arith) there)) (omega (arith, (ln.below q).before (front + k) (omega arith)))

  own_year : (k : ℕ) → k < length (take own desk) → year_of (get_or (take own desk) k 0) ≡ y
  own_year k h =
      let short : k < own = omega (arith, length-take-le own desk lo.within) in
      let there : k < length desk = omega (arith, lo.within) in
      ap year_of (get_or-take own desk k 0 short)
      ∙ year_is y (get_or desk k 0) one (day_of_lem desk k p there) (year_start_lem y (get_or desk k 0) one (day_of_lem desk k p there) (late k there)) (omega (arith, (lo.below p).before k short))

  behind_it : (k : ℕ) → k < length (drop next house) → y < year_of (get_or (drop next house) k 0)
  behind_it k h =
      let there : next + k < length house = omega (arith, length-drop next house) in
      let l = year_above y (get_or house (next + k) 0) one (day_of_lem house (next + k) q there) (omega (arith, ln.from q (next + k) (omega arith) there)) in
      rw (get_or-drop next house k 0) l

  has_own : 0 < own
  has_own = by (leb 1 own) refl
    where
      by : (b : Bool) → leb 1 own ≡ b → 0 < own
      by true e = leb-true 1 own e
      by false e =
          let l = year_end y (get_or desk 0 0) one (day_of_lem desk 0 p s) (omega (arith, is)) in
          let bad : ⊥ = omega (arith, lo.from p 0 (omega (arith, leb-false 1 own e)) s) in
          absurd bad

  rest_of_house : drop (next - front) (drop front house) ≡ drop next house
  rest_of_house = let n : front + (next - front) ≡ next = omega (arith, order) in drop-drop (next - front) front house ∙ ap (λ (k : ℕ). drop k house) n

  turned : Turns desk house front own next
  turned =
      record {
        some = has_own;
        in_desk = lo.within;
        order = order;
        in_house = ln.within;
        same =
            in_front_lem y SPAN_LAST SPAN_FIRST desk (ok_ascends desk p) late SPAN_FIRST front house (ok_ascends house q) lf.within before_it
            ∙ ap (λ (l : List ℕ). take front house ++ l)
            (passed_over y desk (ap (λ (k : ℕ). has_none (entries_in k desk)) (sym is) ∙ has_first desk s) (next - front) (drop front house) (omega (arith, length-drop front house, ln.within)) in_year
            ∙ ap (combined desk) rest_of_house
            ∙ ap (λ (l : List ℕ). combined l (drop next house)) (sym (take-append-drop own desk))
            ∙ own_first y (take own desk) (drop own desk) (drop next house) own_year behind_it);
      }

pub turn_there : (desk house : List ℕ) (f : Fields) (first last front own next : ℕ) → closed_ok desk ≡ true → closed_ok house ≡ true → 0 < length desk → f ≡ fields_of (get_or desk 0 0) → (in_years f.year ≡ true → first ≡ day_number f.year 1 1) → (in_years f.year ≡ true → last ≡ day_number f.year 12 31) → LowerBound house first front → LowerBound desk (last + 1) own → LowerBound house (last + 1) next → Turns desk house front own next
turn_there desk house f first last front own next d k z e a b lf lo ln =
    let i = first_in desk f d z e in
    turned desk house f.year first last front own next d k z (first_year_lem desk f d z e) i (a i) (b i) lf lo ln

-- ---- the rest of a list that keeps its rule keeps it
drop_ascends : (high low i : ℕ) (list : List ℕ) → ascending low high list ≡ true → ascending low high (drop i list) ≡ true
drop_ascends high low zero [] e = e
drop_ascends high low zero (x ∷ xs) e = e
drop_ascends high low (suc i) [] e = e
drop_ascends high low (suc i) (x ∷ xs) e =
    let a = asc high low x xs e in
    lower low (x + 1) high (drop i xs) (omega (arith, leb-true low x a.0)) (drop_ascends high (x + 1) i xs a.2)

pub rest_ok : (list rest : List ℕ) (i : ℕ) → closed_ok list ≡ true → rest ≡ drop i list → closed_ok rest ≡ true
unfolding closed_ok
rest_ok list rest i ok e =
    let few : leb (length (drop i list)) 4096 ≡ true = le-leb (length (drop i list)) 4096 (omega (arith, length-drop i list, (checked_keeps list ok).few)) in
    rw (e, few) (drop_ascends SPAN_LAST SPAN_FIRST i list (ok_ascends list ok))

-- the rest, as a slice has it
pub slice_is : (list : List ℕ) (i : ℕ) → take (length list - i) (drop i list) ≡ drop i list
slice_is list i = take_all (length list - i) (drop i list) (omega (arith, length-drop i list))

-- all of the desk's are taken: what is left is the house's rest
left_is : (own all : List ℕ) → closed_ok all ≡ true → length own ≡ 0 → combined own all ≡ all
left_is [] all q h = only_house SPAN_LAST SPAN_FIRST all (ok_ascends all q)
left_is (x ∷ xs) all q h = let bad : ⊥ = omega arith in absurd bad

-- ---- counting: what the turns so far have, and what is left of the two lists
pub record Counting (desk house own all : List ℕ) (n : ℕ) : Type 0 where
  pub rest : n + length (combined own all) ≡ length (combined desk house)
  pub small : length (combined desk house) ≤ 8192

pub count_none : (desk house : List ℕ) → closed_ok desk ≡ true → closed_ok house ≡ true → Counting desk house desk house 0
count_none desk house p q =
    record { rest = omega arith; small = omega (arith, combined_few desk house, (checked_keeps desk p).few, (checked_keeps house q).few) }

module _ (own all : List ℕ) (front here next : ℕ) (t : Turns own all front here next) where
  long_front : length (take front all) ≡ front
  long_front = length-take-le front all (omega (arith, t.order, t.in_house))

  long_here : length (take here own) ≡ here
  long_here = length-take-le here own t.in_desk

  next_long : length (combined own all) ≡ front + here + length (combined (drop here own) (drop next all))
  next_long =
      let rest = combined (drop here own) (drop next all) in
      omega (arith, ap length t.same, length-append (take front all) (take here own ++ rest), length-append (take here own) rest, long_front, long_here)

  pub fewer : (rest : List ℕ) → rest ≡ drop here own → length rest < length own
  fewer rest e = omega (arith, ap length e, length-drop here own, t.some, t.in_desk)

module _ {desk house own all : List ℕ} {n : ℕ} (c : Counting desk house own all n) where
  module _ {front here next : ℕ} (t : Turns own all front here next) where
    pub count_small : n + (front + here) ≤ 8192
    count_small = omega (arith, next_long own all front here next t, c.rest, c.small)

    pub count_more : {own' all' : List ℕ} → (own' ≡ drop here own) × (all' ≡ drop next all) → Counting desk house own' all' (n + (front + here))
    count_more e = rw (e.0, e.1) (record { rest = omega (arith, next_long own all front here next t, c.rest); small = c.small })

  pub count_all : closed_ok all ≡ true → length own ≡ 0 → n + length all ≡ length (combined desk house)
  count_all q h = omega (arith, c.rest, ap length (left_is own all q h))

-- ---- a copy
pub record Copying (list out₀ : List ℕ) (at : ℕ) (out : List ℕ) (k : ℕ) : Type 0 where
  pub within : k ≤ length list
  pub long : length out ≡ length out₀
  pub same : out ≡ paste out₀ at list k

pub copy_start : {list out : List ℕ} {at : ℕ} → Copying list out at out 0
copy_start {list} {out} {at} = record { within = omega arith; long = refl; same = paste-zero out at list }

module _ {list out₀ : List ℕ} {at : ℕ} {out : List ℕ} {k : ℕ} (g : Copying list out₀ at out k) where
  pub copy_more : at + length list ≤ length out₀ → k < length list → Copying list out₀ at (set out (at + k) (get_or list k 0)) (k + 1)
  copy_more room h =
      record {
        within = omega arith;
        long = length-set out (at + k) (get_or list k 0) ∙ g.long;
        same =
            ap (λ (l : List ℕ). set l (at + k) (get_or list k 0)) g.same
            ∙ paste-suc out₀ at list k 0 (omega (arith, room, h)) h
            ∙ ap (paste out₀ at list) (sym (add-one k));
      }

  pub copy_end : length list ≤ k → out ≡ paste out₀ at list (length list)
  copy_end h = g.same ∙ ap (paste out₀ at list) (le_antisymm g.within h)

  pub copy_long : length out ≡ length out₀
  copy_long = g.long

pub ruleset copies = (copy_start, copy_more, copy_end, copy_long, rules)

-- ---- writing: what the turns so far have lies at the start of the lent list, the rest of which is as it was
lies_more : (done part out₀ out : List ℕ) (n : ℕ) → n ≡ length done → out ≡ done ++ drop n out₀ → paste out n part (length part) ≡ (done ++ part) ++ drop (n + length part) out₀
lies_more done part out₀ out n l e =
    let a : take n out ≡ done = ap (take n) e ∙ take_at done (drop n out₀) n (sym l) in
    let b : take (length part) part ≡ part = take-length part in
    let d : drop (n + length part) out ≡ drop (n + length part) out₀ =
    ap (drop (n + length part)) e
    ∙ ap (λ (k : ℕ). drop (k + length part) (done ++ drop n out₀)) l
    ∙ drop-append-add done (drop n out₀) (length part)
    ∙ drop-drop (length part) n out₀ in
    rw (a, b, d) refl

pub record Laying (desk house out₀ out own all : List ℕ) (n : ℕ) : Type 0 where
  pub counts : Counting desk house own all n
  pub done : List ℕ
  pub long : n ≡ length done
  pub rest : done ++ combined own all ≡ combined desk house
  pub same : out ≡ done ++ drop n out₀
  pub size : length out ≡ length out₀
  pub room : length (combined desk house) ≤ length out₀

pub laying_none : (desk house out : List ℕ) → closed_ok desk ≡ true → closed_ok house ≡ true → length (combined desk house) ≤ length out → Laying desk house out out desk house 0
laying_none desk house out p q r =
    record { counts = count_none desk house p q; done = []; long = refl; rest = refl; same = refl; size = refl; room = r }

module _ {desk house out₀ out own all : List ℕ} {n : ℕ} (c : Laying desk house out₀ out own all n) where
  module _ {front here next : ℕ} (t : Turns own all front here next) where
    front_long : length (take front all) ≡ front
    front_long = long_front own all front here next t

    here_long : length (take here own) ≡ here
    here_long = long_here own all front here next t

    pub front_fits : n + length (take front all) ≤ length out
    front_fits = omega (arith, c.counts.rest, next_long own all front here next t, front_long, c.size, c.room)

    module _ {out₁ : List ℕ} (e₁ : out₁ ≡ paste out n (take front all) (length (take front all))) where
      size₁ : length out₁ ≡ length out
      size₁ = ap length e₁ ∙ length-paste out n (take front all) (length (take front all)) front_fits (omega arith)

      pub here_fits : n + front + length (take here own) ≤ length out₁
      here_fits = omega (arith, c.counts.rest, next_long own all front here next t, here_long, size₁, c.size, c.room)

      pub laying_more : {out₂ own' all' : List ℕ} → out₂ ≡ paste out₁ (n + front) (take here own) (length (take here own)) → (own' ≡ drop here own) × (all' ≡ drop next all) → Laying desk house out₀ out₂ own' all' (n + (front + here))
      laying_more {out₂} e₂ z =
          let a = take front all in
          let b = take here own in
          let l₁ : n + front ≡ length (c.done ++ a) = omega (arith, c.long, front_long, length-append c.done a) in
          let f₁ : out₁ ≡ (c.done ++ a) ++ drop (n + front) out₀ = e₁ ∙ lies_more c.done a out₀ out n c.long c.same ∙ ap (λ (k : ℕ). (c.done ++ a) ++ drop (n + k) out₀) front_long in
          let f₂ : out₂ ≡ ((c.done ++ a) ++ b) ++ drop (n + front + length b) out₀ = e₂ ∙ lies_more (c.done ++ a) b out₀ out₁ (n + front) l₁ f₁ in
          let m : n + front + length b ≡ n + (front + here) = omega (arith, here_long) in
          record {
            counts = count_more c.counts t z;
            done = (c.done ++ a) ++ b;
            long = omega (arith, l₁, here_long, length-append (c.done ++ a) b);
            rest =
                rw (z.0, z.1)
                (append_assoc (c.done ++ a) b _
                ∙ append_assoc c.done a _
                ∙ ap (λ (l : List ℕ). c.done ++ l) (sym t.same)
                ∙ c.rest);
            same = f₂ ∙ ap (λ (k : ℕ). ((c.done ++ a) ++ b) ++ drop k out₀) m;
            size = ap length e₂ ∙ length-paste out₁ (n + front) b (length b) here_fits (omega arith) ∙ size₁ ∙ c.size;
            room = c.room;
          }

  module _ (q : closed_ok all ≡ true) (h : length own ≡ 0) where
    last_is : all ≡ combined own all
    last_is = sym (left_is own all q h)

    pub last_fits_in : n + length all ≤ length out
    last_fits_in = omega (arith, count_all c.counts q h, c.size, c.room)

    pub laid_all : {out₁ : List ℕ} → out₁ ≡ paste out n all (length all) → out₁ ≡ combined desk house ++ drop (length (combined desk house)) out₀
    laid_all e =
        let w : c.done ++ all ≡ combined desk house = ap (λ (l : List ℕ). c.done ++ l) last_is ∙ c.rest in
        let m : n + length all ≡ length (combined desk house) = count_all c.counts q h in
        e ∙ lies_more c.done all out₀ out n c.long c.same ∙ ap (λ (k : ℕ). (c.done ++ all) ++ drop k out₀) m ∙ ap (λ (l : List ℕ). l ++ drop (length (combined desk house)) out₀) w
