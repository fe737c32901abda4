-- A law for each way through the question, from its refusals to its answer.
-- Assumes nothing.
use Prim.Native.Nat.{ℕ, zero, suc, ◌+◌, ◌-◌, ◌*◌, ◌≤◌, ◌<◌}
use mathlib.Core.Path.{◌≡◌, refl, ap, sym, ◌∙◌}
use mathlib.Core.Logic.{◌⊎◌, inl, inr, ⊎_elim}
use mathlib.Core.Bool.{Bool, true, false, false≢true, not, ◌&&◌}
use mathlib.Core.List.{List, [], ◌∷◌}
use native.Mathlib.Numerals.{add-one}
use native.Mathlib.Omega.{arith}
use lib.Dec.{eqb, leb}
use lib.IntN.{pos, nat_abs}
use lib.Signed.{lt_z}
use mir.Syntax.{w32}
use mir.Val.{Fits}
use borrow.Author.Rules.{rules}
use borrow.Author.Tests.{ne_eqb, leb-true, le-leb, lt-leb, le-ltb, lt-ltb, not-true, not-false}
use Rattle.std.specs.Prelude.{Result, Ok, Err, IsErr, IsErrAnd}
use Rattle.refusal.specs.declared.Refusal.{Refusal}
use Rattle.refusal.specs.Refusals.{number_of, of_number, in_table}
use Rattle.refusal.specs.Refusals as table
use Rattle.refusal.specs.Laws.Searched.{is_listed}
use Rattle.refusal.specs.Answer.{Answer, given, refused, answered, number, BOOK, TENOR, NOTPLAIN}
use Rattle.date.specs.declared.Fields.{Fields}
use Rattle.date.specs.Civil.{pick_n, fields_of}
use Rattle.refusal.specs.Laws.Answers.{both, handed}
use Rattle.period.specs.Period.{is_negative}
use Rattle.date.specs.Date.{in_book, month_index}
use Rattle.date.specs.Laws.Moves.{book_le}
use Rattle.calendar.specs.Open.{calendar_ok}
use Rattle.calendar.specs.Calendar.{tenor_ok}
use Rattle.steps.specs.declared.Pace.{Pace}
use Rattle.steps.specs.declared.Request.{Request}
use Rattle.steps.specs.declared.Seed.{Seed}
use Rattle.steps.specs.Candidates.{seed_of, candidate}
use Rattle.steps.specs.Rules.{rule_in_force, is_backward, pace_of}
use Rattle.steps.specs.Table.{Row, number_or, first_row, anchor_ok, dates_ok, anchor_rows, first_rows, last_rows, rows_under, input_rows}
use Rattle.steps.specs.Laws.Table.{answer_is_none}
use Rattle.working.specs.Paces.{pace, pace_checked}
use Rattle.outcomes.specs.Laws.Span.{since}
use Rattle.plain.specs.Laws.Checks.{not_negative}
use Rattle.plain.specs.Most.{day_or}
use Rattle.coming.specs.declared.Coming.{Coming}
use Rattle.coming.specs.declared.Coming.TheVariants as coming
use Rattle.coming.specs.Coming.{Comes, begins, comes, none_comes, pick_c, is_answered, asked_rows, on_or, flag_by, comes_backward, comes_forward, comes_between, comes_after, unless_refused, coming_of, said, meant}
use Rattle.coming.specs.Laws.Counted.{tenors_from, behind_of, ahead_of, behind_is, ahead_is, Booked, SeedIn, behind_in, ahead_in}
use Rattle.coming.specs.Laws.Straight.{Straight, backward, forward, straight, asked_numbered, answerable}
use Rattle.coming.specs.Inner.Checked.{is_early, left_rows, Passed}
use Rattle.coming.proofs.Counting.{tenors_few, counts}

-- ---- a refusal has a number, and no row has number 0
none_early : (n : ℕ) → n ≡ 0 → false ≡ is_early n
unfolding is_early
none_early n e = rw e

no_zero : in_table 0 ≡ false
unfolding in_table of_number table.refusals table.pick
no_zero = refl

some_number : (r : Refusal) → number_of r ≡ 0 → ⊥
some_number r z = absurd (false≢true (sym no_zero ∙ ap in_table (sym z) ∙ is_listed r))

pub early_number : (r : Refusal) (n m : ℕ) → n ≡ number_of r → m ≡ TENOR → leb n m ≡ is_early (number_of r)
unfolding is_early
early_number r n m h k = rw (h, k, ne_eqb (number_of r) 0 (some_number r))

-- ---- from a seed: one tenor more is a count that fits
module _ (pace : Pace) (seed : Seed) (x : ℕ) (b : Booked seed x) (k : ℕ) where
  pub more_behind : k ≡ tenors_from true pace seed (x + 1) → Fits w32 (k + 1)
  more_behind e = record { fits = omega (arith, tenors_few true pace seed x (x + 1) k b (omega arith) e) }

  pub more_ahead : k ≡ tenors_from false pace seed x → Fits w32 (k + 1)
  more_ahead e = record { fits = omega (arith, tenors_few false pace seed x x k b (omega arith) e) }

  pub behind_said : (e day : ℕ) (a a' : Answer ℕ) (r : Bool) → k ≡ tenors_from true pace seed (x + 1) → a ≡ candidate true pace seed k → day ≡ day_or a → a' ≡ candidate true pace seed (k + 1) → pick_n r 1 0 ≡ flag_by a' e → said (coming.Ending (record { day = day }) r) ≡ behind_of pace seed e x
  unfolding said behind_of
  behind_said e day a a' r h c d c' f =
      let u : day ≡ day_or (candidate true pace seed (tenors_from true pace seed (x + 1))) = d ∙ ap day_or (c ∙ ap (candidate true pace seed) h) in
      let v : pick_n r 1 0 ≡ flag_by (candidate true pace seed (suc (tenors_from true pace seed (x + 1)))) e = f ∙ ap (λ (z : Answer ℕ). flag_by z e) (c' ∙ ap (candidate true pace seed) (add-one k ∙ ap suc h)) in
      λ i. comes (u i) (v i)

  pub ahead_said : (t : ℕ) (a : Answer ℕ) (r : Coming) → k ≡ tenors_from false pace seed x → a ≡ candidate false pace seed (k + 1) → said r ≡ on_or a t → said r ≡ ahead_of pace seed t x
  unfolding ahead_of
  ahead_said t a r h c m = m ∙ ap (λ (z : Answer ℕ). on_or z t) (c ∙ ap (candidate false pace seed) (add-one k ∙ ap suc h))

pub ruleset from_seed = (more_behind, more_ahead, behind_said, ahead_said, rules)

-- ---- the rows that are left of an answered request are the question's
five : Bool → Bool → Bool → Bool → Bool → Bool → Bool → Bool → Bool → ℕ
five x e t f p c n d a =
    number_or (not (x && (e && (t && (f && p))))) 2 (number_or (not c) 3 (number_or n 4 (number_or (not d) 5 (number_or (not a) 19 0))))

left_five : (e t c d : Bool) → number_or (not e) 2 (number_or (not t) 2 (number_or (not c) 3 (number_or (not d) 5 0))) ≡ five true e t true true c false d true
unfolding five number_or
left_five true true c d = refl
left_five true false c d = refl
left_five false t c d = refl

no_anchor : (n : ℕ) → n ≡ 0 → anchor_ok n ≡ true
unfolding anchor_ok
no_anchor n e = rw e

left_are : (q : Request) (closed : List ℕ) (x : ℕ) → in_book x ≡ true → is_answered q ≡ true → first_row (left_rows q closed) ≡ first_row (asked_rows q closed x)
unfolding left_rows asked_rows first_row dates_ok five
left_are q closed x b a = by (straight q a)
  where
    told : q.first.day ≡ 0 → q.penultimate.day ≡ 0 → lt_z (pos 0) q.tenor.length ≡ true → first_row (left_rows q closed) ≡ first_row (asked_rows q closed x)
    told f p n =
        left_five (in_book q.effective.day) (in_book q.termination.day) (calendar_ok q.mask closed) (tenor_ok (nat_abs q.tenor.length) q.tenor.unit)
        ∙ (λ i. five (sym b i) (in_book q.effective.day) (in_book q.termination.day) (sym (no_anchor q.first.day f) i) (sym (no_anchor q.penultimate.day p) i) (calendar_ok q.mask closed) (sym (not_negative q.tenor.length n) i) (tenor_ok (nat_abs q.tenor.length) q.tenor.unit) (sym a i))

    by : Straight q → first_row (left_rows q closed) ≡ first_row (asked_rows q closed x)
    by (backward s) = told s.no_first s.no_penultimate s.positive
    by (forward s) = told s.no_first s.no_penultimate s.positive

-- ---- the rows: those of a build with equal lent lengths, up to 5, then the question's own
-- the four rows before others: one of them is the first that holds, or the others are looked at
four : Bool → Bool → Bool → Bool → ℕ → ℕ
four a b c d rest = number_or a 2 (number_or b 3 (number_or c 4 (number_or d 5 rest)))

Behind : ℕ → Type 0
Behind n = (n ≡ 0) ⊎ (6 ≤ n)

four_holds : (a b c d : Bool) (rest other : ℕ) → Behind rest → is_early (four a b c d rest) ≡ true → four a b c d rest ≡ four a b c d other
unfolding four Behind is_early number_or
four_holds true b c d rest other h e = refl
four_holds false true c d rest other h e = refl
four_holds false false true d rest other h e = refl
four_holds false false false true rest other h e = refl
four_holds false false false false rest other h e = ⊎_elim (λ (z : rest ≡ 0). absurd (false≢true (none_early rest z ∙ e))) (λ (z : 6 ≤ rest). absurd (false≢true (sym (lt-leb rest 5 z) ∙ (both (not (eqb rest 0)) (leb rest 5) e).1))) h

four_passed : (a b c d : Bool) (rest other : ℕ) → is_early (four a b c d rest) ≡ false → other ≡ four a b c d other
unfolding four is_early number_or
four_passed true b c d rest other e = absurd (false≢true (sym e))
four_passed false true c d rest other e = absurd (false≢true (sym e))
four_passed false false true d rest other e = absurd (false≢true (sym e))
four_passed false false false true rest other e = absurd (false≢true (sym e))
four_passed false false false false rest other e = refl

behind_row : (n : ℕ) (b : Bool) (rest : ℕ) → 6 ≤ n → Behind rest → Behind (number_or b n rest)
unfolding Behind number_or
behind_row n true rest h k = inr h
behind_row n false rest h k = k

-- whether the numbers of all rows are 6 or more
from_six : List Row → Bool
from_six [] = true
from_six (r ∷ rows) = leb 6 r.number && from_six rows

behind_rows : (rows : List Row) → from_six rows ≡ true → Behind (first_row rows)
unfolding from_six first_row Behind
behind_rows [] e = inl refl
behind_rows (r ∷ rows) e = let f = both (leb 6 r.number) (from_six rows) e in behind_row r.number r.holds (first_row rows) (leb-true 6 r.number f.0) (behind_rows rows f.1)

module _ (q : Request) (closed : List ℕ) (x : ℕ) where
  pub not_booked : (t : Bool) → t ≡ in_book x → not t ≡ true → BOOK ≡ first_row (asked_rows q closed x)
  unfolding asked_rows first_row number_or
  not_booked t h e = rw (sym h ∙ not-true t e)

  abbrev later : ℕ
  later = first_row (rows_under q (rule_in_force q))

  later_behind : Behind later
  unfolding from_six rows_under first_rows last_rows anchor_rows
  later_behind = behind_rows (rows_under q (rule_in_force q)) refl

  abbrev four_of : ℕ → ℕ
  four_of rest = four (not (dates_ok q)) (not (calendar_ok q.mask closed)) (is_negative q.tenor.length) (not (tenor_ok (nat_abs q.tenor.length) q.tenor.unit)) rest

  build_rows : first_row (input_rows q closed 0 0) ≡ four_of later
  unfolding input_rows first_row number_or four
  build_rows = refl

  rows_of_booked : in_book x ≡ true → first_row (asked_rows q closed x) ≡ four_of (number_or (not (is_answered q)) NOTPLAIN 0)
  unfolding asked_rows first_row four
  rows_of_booked e = rw e refl

  module _ (t : Bool) (b : t ≡ in_book x) (e : not t ≡ false) (n : ℕ) (h : n ≡ first_row (input_rows q closed 0 0)) (p : Bool) (k : p ≡ is_early n) where
    booked : in_book x ≡ true
    booked = sym b ∙ not-false t e

    early_is : is_early (four_of later) ≡ p
    early_is = ap is_early (sym (h ∙ build_rows)) ∙ sym k

    pub early_row : p ≡ true → n ≡ first_row (asked_rows q closed x)
    early_row f = h ∙ build_rows ∙ four_holds _ _ _ _ later _ later_behind (early_is ∙ f) ∙ sym (rows_of_booked booked)

    passed_row : (a : Bool) → p ≡ false → a ≡ is_answered q → number_or (not a) NOTPLAIN 0 ≡ first_row (asked_rows q closed x)
    passed_row a f i = ap (λ (z : Bool). number_or (not z) NOTPLAIN 0) i ∙ four_passed _ _ _ _ later _ (early_is ∙ f) ∙ sym (rows_of_booked booked)

    pub other_row : (a : Bool) → p ≡ false → a ≡ is_answered q → a ≡ false → NOTPLAIN ≡ first_row (asked_rows q closed x)
    unfolding number_or
    other_row a f i g = ap (λ (z : Bool). number_or (not z) NOTPLAIN 0) (sym g) ∙ passed_row a f i

  -- a build is not refused
  pub unrefused_row : (t a : Bool) → t ≡ in_book x → not t ≡ false → 0 ≡ first_row (input_rows q closed 0 0) → a ≡ is_answered q → a ≡ false → NOTPLAIN ≡ first_row (asked_rows q closed x)
  unrefused_row t a b e h i g = other_row t b e 0 h false (none_early 0 refl) a refl i g

  -- an answered request: its anchors are 0 and its tenor is positive
  pub left_row : (t a : Bool) (n : ℕ) → t ≡ in_book x → not t ≡ false → a ≡ is_answered q → a ≡ true → n ≡ first_row (left_rows q closed) → n ≡ first_row (asked_rows q closed x)
  left_row t a n b e i g h = h ∙ left_are q closed x (sym b ∙ not-false t e) (sym i ∙ g)

pub ruleset asked_tests = (not_booked, early_row, other_row, unrefused_row, left_row, rules)

-- ---- a seed for days or for months
pub seed_months : (monthly : Bool) (day : ℕ) (f : Fields) (month : ℕ) → monthly ≡ true → f ≡ fields_of day → month ≡ 12 * f.year + f.month - 1 → SeedIn monthly day (record { day = day; month = month; keep = f.day })
unfolding seed_of month_index
seed_months monthly day f month e h m =
    let k : month ≡ month_index day = m ∙ ap (λ (y : Fields). 12 * y.year + y.month - 1) h in
    record { day_is = refl; whole = λ _. (λ i. record { day = day; month = k i; keep = (h i).day }); no_month = λ g. absurd (false≢true (sym g ∙ e)) }

pub seed_days : (monthly : Bool) (day : ℕ) → monthly ≡ false → SeedIn monthly day (record { day = day; month = 0; keep = 0 })
seed_days monthly day e = record { day_is = refl; whole = λ f. absurd (false≢true (sym e ∙ f)); no_month = λ _. refl }

pub ruleset seed_ways = (counts, seed_months, seed_days, rules)

month_at : (day : ℕ) (seed : Seed) → seed ≡ seed_of false day → seed.month ≡ month_index day
unfolding seed_of
month_at day seed h = ap (λ (s : Seed). s.month) h

-- ---- between the dates, and the whole answer
module _ (q : Request) (x : ℕ) (c : Passed q x) where
  module _ (p : Pace) (paced : p ≡ pace q.tenor) (seed : Seed) where
    book_seed : (day : ℕ) → in_book day ≡ true → SeedIn p.monthly day seed → Booked seed x
    book_seed day b s = record { day = omega (arith, book_le day b, s.day_is); month = by p.monthly refl; asked = book_le x c.asked }
      where
        by : (m : Bool) → p.monthly ≡ m → seed.month ≤ 26399
        by false e = omega (arith, s.no_month e)
        by true e = omega (arith, (since day b).1, month_at day seed (s.whole e))

    pub back_booked : SeedIn p.monthly q.termination.day seed → Booked seed x
    back_booked s = book_seed q.termination.day c.termination s

    pub on_booked : SeedIn p.monthly q.effective.day seed → Booked seed x
    on_booked s = book_seed q.effective.day c.effective s

    is_paced : p ≡ pace_of q.tenor
    is_paced = paced ∙ pace_checked q.tenor c.tenor

    module _ (t : Bool) (u : t ≡ is_backward q.rule) (r : Coming) where
      pub goes_back : t ≡ true → SeedIn p.monthly q.termination.day seed → said r ≡ behind_of p seed q.effective.day x → said r ≡ comes_between q x
      goes_back e s m =
          m ∙ (behind_in p q.termination.day seed s q.effective.day x ∙ ap (λ (z : Pace). behind_of z (seed_of false q.termination.day) q.effective.day x) is_paced ∙ behind_is q x ∙ ap (λ (b : Bool). pick_c b (comes_backward q x) (comes_forward q x)) (sym e ∙ u))

      pub goes_on : t ≡ false → SeedIn p.monthly q.effective.day seed → said r ≡ ahead_of p seed q.termination.day x → said r ≡ comes_between q x
      goes_on e s m =
          m ∙ (ahead_in p q.effective.day seed s q.termination.day x ∙ ap (λ (z : Pace). ahead_of z (seed_of false q.effective.day) q.termination.day x) is_paced ∙ ahead_is q x ∙ ap (λ (b : Bool). pick_c b (comes_backward q x) (comes_forward q x)) (sym e ∙ u))

module _ (q : Request) (closed : List ℕ) (x : ℕ) (tested : Result (Prim.Unit {0}) Refusal) (h : number (answered tested) ≡ first_row (asked_rows q closed x)) where
  pub is_refused : (d : Result Coming Refusal) (r : Refusal) → tested ≡ Err r → IsErr d × IsErrAnd d (λ k. k ≡ r) → meant d ≡ coming_of q closed x
  unfolding meant coming_of unless_refused number
  is_refused d r e k = ap meant (handed d r k) ∙ by (first_row (asked_rows q closed x)) (ap (λ (t : Result (Prim.Unit {0}) Refusal). number (answered t)) (sym e) ∙ h)
    where
      by : (n : ℕ) → number_of r ≡ n → refused (number_of r) ≡ unless_refused n (comes_after q x)
      by zero z = absurd (some_number r z)
      by (suc n) z = ap refused z

  module _ (u : Prim.Unit {0}) (e : tested ≡ Ok u) where
    no_row : 0 ≡ first_row (asked_rows q closed x)
    unfolding number
    no_row = ap (λ (t : Result (Prim.Unit {0}) Refusal). number (answered t)) (sym e) ∙ h

    is_given : (r : Coming) → said r ≡ comes_after q x → meant (Ok r) ≡ coming_of q closed x
    unfolding meant coming_of unless_refused
    is_given r m = ap given m ∙ ap (λ (k : ℕ). unless_refused k (comes_after q x)) no_row

    abbrev rest : Comes
    rest = pick_c (leb q.termination.day x) none_comes (comes_between q x)

    pub is_first : x < q.effective.day → meant (Ok (coming.Effective q.effective)) ≡ coming_of q closed x
    unfolding said comes_after
    is_first l = is_given (coming.Effective q.effective) (ap (λ (b : Bool). pick_c b (begins q.effective.day) rest) (sym (lt-ltb x q.effective.day l)))

    module _ (l : q.effective.day ≤ x) where
      not_before : rest ≡ comes_after q x
      unfolding comes_after
      not_before = ap (λ (b : Bool). pick_c b (begins q.effective.day) rest) (sym (le-ltb x q.effective.day l))

      pub is_none : q.termination.day ≤ x → meant (Ok coming.Nothing) ≡ coming_of q closed x
      unfolding said
      is_none g = is_given coming.Nothing (ap (λ (b : Bool). pick_c b none_comes (comes_between q x)) (sym (le-leb q.termination.day x g)) ∙ not_before)

      pub is_between : (r : Coming) → x < q.termination.day → said r ≡ comes_between q x → meant (Ok r) ≡ coming_of q closed x
      is_between r g m = is_given r (m ∙ ap (λ (b : Bool). pick_c b none_comes (comes_between q x)) (sym (lt-leb q.termination.day x g)) ∙ not_before)

    pub passed : Passed q x
    passed =
        let a = answerable q closed x (answer_is_none (asked_rows q closed x) (asked_numbered q closed x) (sym no_row)) in
        record { tenor = a.passes.tenor_short; effective = a.passes.effective_in_book; termination = a.passes.termination_in_book; asked = a.day_in_book }
