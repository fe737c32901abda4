-- Both directions agree on trades of whole tenors whose termination has effective's day of the month, and on no others; no two outcomes meet what is said.
-- Assumes nothing.
use Rattle.std.specs.Prelude.{ℕ, zero, suc, ◌+◌, ◌-◌, ◌*◌, ◌/◌, ◌%◌, ◌≤◌, ◌<◌, min, ◌≡◌, ◌↔◌, Bool, true, false, List, [], ◌∷◌, ◌++◌, length, get_or, replicate}
use Rattle.std.proofs.Math.Path.{refl, ap}
use Rattle.std.proofs.Common.{sym, ◌∙◌, subst, inl, inr, ⊎_elim, le_refl, mul-div_cancel, mul-le-mul_right, suc-mul, add-mul, arith, ext_get_or}
use Rattle.std.proofs.Math.Nat.{sub-zero}
use Rattle.std.proofs.lemmas.List.{get_or-replicate}
use borrow.Author.Tests.{ne_eqb, le-ltb}
use Rattle.std.proofs.lemmas.List.{append-nil}
use Rattle.refusal.specs.Answer.{Answer, given, refused, ROOM}
use Rattle.refusal.specs.Laws.Answers.{one_given}
use Rattle.period.specs.declared.Unit.{Unit as TimeUnit}
use Rattle.period.specs.declared.Unit.TheVariants.{Days, Weeks, Months, Years}
use Rattle.date.specs.Civil.{fields_of, month_length}
use Rattle.date.specs.Laws.Months.{length_ge}
use Rattle.date.specs.Laws.Order.{months_keep_the_day}
use Rattle.date.specs.Date.{in_book, within_span, in_month, month_index, step, shift_days, shift_months, shifted}
use Rattle.steps.specs.declared.Rule.{Rule}
use Rattle.steps.specs.declared.Rule.TheVariants.{Backward, Forward}
use Rattle.steps.specs.declared.Request.{Request}
use Rattle.steps.specs.Rules.{rule_number, one_of, is_zero, rule_under, is_none, rule_in_force}
use Rattle.steps.specs.Table.{first_row, dates_ok, by_range, by_imm, out_of_range, not_imm, wrong_rule, first_outside, last_outside, monthend_allowed, short_end, anchor_rows, first_rows, last_rows, rows_under, input_rows}
use Rattle.steps.specs.Generate.{generate}
use Rattle.steps.specs.Build.{Schedule, admitted, build_of}
use Rattle.outcomes.specs.Laws.Span.{le_or_lt}
use Rattle.plain.specs.Demand.{Plain, Passes, tenor_length, tenors_before, LiesSo, Owed, FirstFlag, tenor_count, taken, counted_in, Most, TooLong, Accepted, Kept}
use Rattle.plain.specs.Demand as demand
use Rattle.plain.specs.Forward.{under, PlainForward, OneOrMore, tenors_after, LastFlag, regular, irregular, added, MostOn, AcceptedOn}
use Rattle.plain.specs.Agree.{Whole, InMonths, EarlyDay, SameDay, BothAgree, EvenDates, Evenly, TooMany, KeptEvenly, forward, backward, BothEvenly, AgreeExactly}
use Rattle.plain.specs.Laws.Chain.{ones, chain, chain_length, chain_at}
use Rattle.plain.specs.Most.{day_or}
use Rattle.plain.specs.Laws.Falling.{due_list}
use Rattle.plain.proofs.Laws.Rising.{one_more, Rises, GeneratedOn}
use Rattle.plain.proofs.Laws.Added.{days_at, months_at, climb_of}
use Rattle.plain.specs.Laws.Tenor.{positive_size, some_count, counts_by}
use Rattle.plain.specs.Laws.Walked.{line, owed_list}
use Rattle.plain.specs.Laws.Checks.{passed}
use Rattle.plain.proofs.Laws.Onward.{passes_under, climb, plain_back, tenors_rise, generated_on}
use Rattle.plain.proofs.Laws.Proved.{demand_3, owed_once, most_once}
use Rattle.plain.proofs.Laws.ForwardProved.{demand_on}
use Rattle.plain.proofs.Laws.Settled.{told}
use Rattle.plain.proofs.Laws.Formula.{owed_list_owed, count_is}

-- ---- the day of the month
-- that of so many months on or back is the same, or the last of a month of 28 days or more
abbrev Clamped : ℕ → ℕ → Type 0
Clamped n r = (l : ℕ) × (28 ≤ l) × ((fields_of r).day ≡ min (fields_of n).day l)

by_months : (back : Bool) (n x r : ℕ) → shift_months n back x ≡ given r → Clamped n r
by_months back n x r h =
    let m : ℕ = step back (month_index n) x in
    (month_length (m / 12) (m % 12 + 1), length_ge (m / 12) (m % 12 + 1) (omega arith), rw (months_keep_the_day n back x r h))

clamped : (u : TimeUnit) → InMonths u → (back : Bool) (n x r : ℕ) → shifted n back x u ≡ given r → Clamped n r
unfolding shifted
clamped Days i back n x r h = absurd i
clamped Weeks i back n x r h = absurd i
clamped Months i back n x r h = by_months back n x r h
clamped Years i back n x r h = by_months back n (12 * x) r h

-- a day of at most 28 is kept
pub early_same : (q : Request) (k : ℕ) → Whole q k → EarlyDay q → SameDay q
early_same q k w h i =
    let l = clamped q.tenor.unit i false q.effective.day _ _ w.leads in
    omega (arith, l.1, l.2, h i)

-- one that leads back was kept
returns : (q : Request) (k : ℕ) → Whole q k → LiesSo q q.effective.day → SameDay q
returns q k w o i =
    let l = clamped q.tenor.unit i false q.effective.day _ _ w.leads in
    let m = clamped q.tenor.unit i true q.termination.day _ _ o.1 in
    omega (arith, l.2, m.2)

-- effective plus x days or months is termination less what is left of them
module _ (e t y x : ℕ) (b : in_book e ≡ true) (l : x ≤ y) where
  across_days : shifted e false y Days ≡ given t → shifted t true (y - x) Days ≡ shifted e false x Days
  unfolding shifted shift_days step
  across_days h = ap within_span (omega (arith, days_at e e 1 b (omega arith) b y t h))

  across_months : (fields_of t).day ≡ (fields_of e).day → shifted e false y Months ≡ given t → shifted t true (y - x) Months ≡ shifted e false x Months
  unfolding shifted shift_months step
  across_months d h = let m : month_index t - (y - x) ≡ month_index e + x = omega (arith, months_at e e 1 b (omega arith) b y t h) in λ i. in_month (m i) (d i)

  across : (u : TimeUnit) → (InMonths u → (fields_of t).day ≡ (fields_of e).day) → shifted e false y (counted_in u) ≡ given t → shifted t true (y - x) (counted_in u) ≡ shifted e false x (counted_in u)
  across Days d h = across_days h
  across Weeks d h = across_days h
  across Months d h = across_months (d tt) h
  across Years d h = across_months (d tt) h

-- ---- no two outcomes meet it
module _ {q : Request} {k : ℕ} where
  pub evenly_once : {s s' : Schedule} → Evenly q k s → Evenly q k s' → s ≡ s'
  evenly_once {s} {s'} a b =
      let d : s.dates ≡ s'.dates = ext_get_or 0 s.dates s'.dates (a.dates.count ∙ sym b.dates.count) (λ i h. same i (omega (arith, a.dates.count))) in
      let f : s.flags ≡ s'.flags = a.flags ∙ sym b.flags in
      let t : s.tries ≡ s'.tries = a.tries ∙ sym b.tries in
      λ i. record { dates = d i; flags = f i; tries = t i }
    where
      same : (i : ℕ) → i ≤ k → get_or s.dates i 0 ≡ get_or s'.dates i 0
      same i h = one_given (tenors_after q i) _ _ (a.dates.places i h) (b.dates.places i h)

  pub settled_evenly : {room : ℕ} {o o' : Answer Schedule} → KeptEvenly q k room o → KeptEvenly q k room o' → o ≡ o'
  settled_evenly {room} {o} {o'} a b =
      ⊎_elim (λ (h : k + 1 ≤ room).
      ⊎_elim (λ (h' : k + 1 ≤ 4096). fit (⊎_elim (λ (x : room < k + 1). omega arith) (λ (x : 4096 < k + 1). omega arith))) (λ (h' : 4096 < k + 1). full (inr h')) (le_or_lt (k + 1) 4096))
      (λ (h : room < k + 1). full (inl h)) (le_or_lt (k + 1) room)
    where
      full : TooMany room (k + 1) → o ≡ o'
      full h = a.refused_exactly.1 h ∙ sym (b.refused_exactly.1 h)

      fit : (TooMany room (k + 1) → ⊥) → o ≡ o'
      fit h = let x = a.given_else h in let y = b.given_else h in x.1 ∙ ap given (evenly_once x.2 y.2) ∙ sym y.1

  -- what is said of a list of k + 1 dates
  as_evenly : {room : ℕ} {o : Answer Schedule} (ds : List ℕ) → length ds ≡ k + 1 → (o ≡ refused ROOM) ↔ TooLong room ds → ((TooLong room ds → ⊥) → (s : Schedule) × (o ≡ given s) × Evenly q k s) → KeptEvenly q k room o
  as_evenly {room} ds size r g = record {
    refused_exactly = (λ e. subst (TooMany room) size (r.0 e), λ h. r.1 (subst (TooMany room) (sym size) h));
    given_else = λ h. g (λ l. h (subst (TooMany room) size l));
  }

module _ (q : Request) (k : ℕ) (w : Whole q k) where
  abbrev e : ℕ
  e = q.effective.day

  abbrev t : ℕ
  t = q.termination.day

  abbrev n : ℕ
  n = tenor_count q

  abbrev forth : Request
  forth = under Forward q

  abbrev back : Request
  back = under Backward q

  some_length : 1 ≤ tenor_length q
  some_length = positive_size q.tenor.length w.positive

  some_units : 1 ≤ n
  some_units = some_count q.tenor.unit (tenor_length q) some_length

  total : added q (k * n) ≡ given t
  total = sym (counts_by false (tenor_length q) q.tenor.unit e k) ∙ w.leads

  whole_part : k * n / n ≡ k
  whole_part = mul-div_cancel k some_units

  -- ---- the input checks read neither rule
  pub rule_asked : (rule : Rule) → rule_in_force (under rule q) ≡ rule
  unfolding rule_in_force rule_under is_none
  rule_asked rule = rw (ne_eqb (tenor_length q) 0 (λ h. omega (arith, some_length))) refl

  same_rows : (closed : List ℕ) (dates flags : ℕ) → input_rows forth closed dates flags ≡ input_rows back closed dates flags
  unfolding input_rows rows_under first_rows last_rows anchor_rows out_of_range not_imm wrong_rule by_range by_imm one_of rule_number dates_ok first_outside last_outside monthend_allowed short_end is_zero
  same_rows closed dates flags = rw (rule_asked Forward, rule_asked Backward) refl

  module _ (closed : List ℕ) (dates flags : ℕ) (c : Passes q closed dates flags) where
    pass : (rule : Rule) → Passes (under rule q) closed dates flags
    pass rule = passes_under rule q closed dates flags c

    order : e < t
    order =
        let l = climb_of e e (tenor_length q) q.tenor.unit c.effective_in_book (omega arith) c.effective_in_book c.tenor_short in
        l.up 0 (k * n) e t (omega (arith, some_units, suc-mul 0 n, mul-le-mul_right {m = 1} {n = k} n w.some)) l.start total

    plain_forth : PlainForward forth
    plain_forth = record { forward = refl; positive = w.positive; no_first = w.no_first; no_penultimate = w.no_penultimate; unadjusted = w.unadjusted; unadjusted_last = w.unadjusted_last; no_month_end = w.no_month_end; order = order }

    plain : Plain back
    plain = plain_back forth plain_forth

    -- ---- forward: whatever day termination has
    most_forth : MostOn forth (k * n)
    most_forth = record { day = t; can_be_added = total; not_passing = le_refl _; no_more = λ x d h o. ⊎_elim (λ (l : x ≤ k * n). l) (λ (l : k * n < x). absurd (no x d h o l)) (le_or_lt x (k * n)) }
      where
        no : (x d : ℕ) → added q x ≡ given d → d ≤ t → k * n < x → ⊥
        no x d h o l = omega (arith, (climb forth plain_forth closed dates flags (pass Forward)).up (k * n) x t d l total h)

    abbrev rises : Rises (tenors_after q) e t (k * n / n)
    rises = tenors_rise forth plain_forth closed dates flags (pass Forward) (k * n) most_forth

    there : (i : ℕ) → i ≤ k → tenors_after q i ≡ given (day_or (tenors_after q i))
    there i h = rises.there i (omega (arith, whole_part))

    g : GeneratedOn e t 0 (tenors_after q) k (generate forth closed 0)
    g = subst (λ (j : ℕ). GeneratedOn e t 0 (tenors_after q) j (generate forth closed 0)) whole_part (generated_on forth plain_forth closed dates flags (pass Forward) (k * n) most_forth 0)

    lies : OneOrMore (tenors_after q) t
    lies = record { count = k; some = w.some; lies = w.leads }

    last_one : (flag : ℕ) → LastFlag forth flag → flag ≡ 1
    last_one flag (regular h l) = h
    last_one flag (irregular h l) = absurd (l lies)

    size : length g.dates ≡ k + 1
    size = ⊎_elim (λ (h : (g.flag ≡ 1) × OneOrMore (tenors_after q) t). omega (arith, g.count, h.0)) (λ (h : (g.flag ≡ 0) × (OneOrMore (tenors_after q) t → ⊥)). absurd (h.1 lies)) g.last_flag

    -- so many dates have k flags
    ones_k : (ds : List ℕ) → length ds ≡ k + 1 → ◌≡◌ {A = List ℕ} (1 ∷ ones (length ds - 2)) (ones k)
    ones_k ds h = let x : suc (length ds - 2) ≡ k = omega (arith, w.some) in ap ones x

    forward_given : (s : Schedule) → AcceptedOn forth g.dates (k * n) s → Evenly q k s
    forward_given s a = record {
      dates = subst (EvenDates q k) (sym a.dates) (record { count = size; places = λ i h. there i h ∙ ap given (sym (g.places i h)) });
      flags = a.flags.all_flags ∙ ap (λ (x : ℕ). ones (length g.dates - 2) ++ (x ∷ [])) (last_one a.flags.last a.flags.last_flag) ∙ one_more (length g.dates - 2) [] ∙ append-nil (ones (suc (length g.dates - 2))) ∙ ones_k g.dates size;
      tries = a.tries ∙ omega (arith, whole_part);
    }

    forward_kept : KeptEvenly q k dates (build_of forth closed dates flags)
    forward_kept =
        let d = demand_on forth closed dates flags plain_forth (pass Forward) g.dates g.lists (k * n) most_forth in
        as_evenly g.dates size d.refused_exactly (λ h. let s = d.accepted_else h in (s.0, s.1, forward_given s.0 s.2))

    -- ---- backward, where termination has effective's day
    module _ (same : SameDay q) where
      -- i tenors after effective are k - i before termination
      split : (i : ℕ) → i ≤ k → (k - i) * n ≡ k * n - i * n
      split i h = let r : (k - i + i) * n ≡ k * n = ap (λ (x : ℕ). x * n) (omega arith) in omega (arith, add-mul (k - i) i n)

      met : (i : ℕ) → i ≤ k → tenors_before q (k - i) ≡ tenors_after q i
      met i h =
          counts_by true (tenor_length q) q.tenor.unit t (k - i)
          ∙ ap (taken q) (split i h)
          ∙ across e t (k * n) (i * n) c.effective_in_book (mul-le-mul_right {m = i} {n = k} n h) q.tenor.unit same total
          ∙ sym (counts_by false (tenor_length q) q.tenor.unit e i)

      before_k : tenors_before q k ≡ given e
      before_k = ap (tenors_before q) (sym (sub-zero k)) ∙ met 0 (omega arith) ∙ rises.start

      back_total : taken q (k * n) ≡ given e
      back_total = sym (counts_by true (tenor_length q) q.tenor.unit t k) ∙ before_k

      most_back : Most back (k * n)
      most_back = record { day = e; can_be_taken = back_total; not_passing = le_refl _; no_more = λ x d h o. ⊎_elim (λ (l : x ≤ k * n). l) (λ (l : k * n < x). absurd (no x d h o l)) (le_or_lt x (k * n)) }
        where
          no : (x d : ℕ) → taken q x ≡ given d → e ≤ d → k * n < x → ⊥
          no x d h o l = omega (arith, (line back plain closed dates flags (pass Backward)).down (k * n) x e d l back_total h)

      abbrev ds : List ℕ
      ds = owed_list back (k * n)

      abbrev from : ℕ → ℕ
      from i = day_or (tenors_before q i)

      list_is : ds ≡ chain from k
      unfolding owed_list due_list
      list_is = rw (whole_part, before_k, le-ltb e e (le_refl _))

      backward_dates : EvenDates q k ds
      backward_dates = rw list_is (record { count = chain_length from k; places = λ i h. there i h ∙ ap given (sym (chain_at from k i h ∙ ap day_or (met i h))) })

      owed : Owed back ds
      owed = owed_list_owed back closed dates flags plain (pass Backward) (k * n) most_back

      backward_given : (s : Schedule) → Accepted back ds (k * n) s → Evenly q k s
      backward_given s a = record {
        dates = subst (EvenDates q k) (sym a.dates) backward_dates;
        flags = a.flags.all_flags ∙ ap (λ (x : ℕ). x ∷ ones (length ds - 2)) (omega (arith, first, backward_dates.count, whole_part)) ∙ ones_k ds backward_dates.count;
        tries = a.tries ∙ omega (arith, whole_part);
      }
        where
          first : length ds + a.flags.first ≡ k * n / n + 2
          first = count_is back closed dates flags plain (pass Backward) (k * n) most_back ds owed a.flags.first a.flags.first_flag

      backward_kept : KeptEvenly q k dates (build_of back closed dates flags)
      backward_kept =
          let d = demand_3 back closed dates flags plain (pass Backward) ds owed (k * n) most_back in
          as_evenly ds backward_dates.count d.refused_exactly (λ h. let s = d.accepted_else h in (s.0, s.1, backward_given s.0 s.2))

    -- ---- without it they differ, in the first flag
    differ : (TooMany dates (k + 1) → ⊥) → build_of forth closed dates flags ≡ build_of back closed dates flags → SameDay q
    differ fits same =
        let s = forward_kept.given_else fits in
        let o = owed_once back closed dates flags plain (pass Backward) in
        let m = most_once back closed dates flags plain (pass Backward) in
        let a = told back dates o.0 m.0 s.0 (subst (Kept back dates o.0 m.0) (sym same ∙ s.1) (demand_3 back closed dates flags plain (pass Backward) o.0 o.1 m.0 m.1)) in
        by a.flags.first a.flags.first_flag (sym s.2.flags ∙ a.flags.all_flags)
      where
        by : (flag : ℕ) {fs : List ℕ} → FirstFlag back flag → replicate k 1 ≡ flag ∷ fs → SameDay q
        by flag (demand.regular h l) f = returns q k w l
        by flag {fs} (demand.irregular h l) f =
            let x : get_or (replicate k 1) 0 0 ≡ flag = ap (λ (z : List ℕ). get_or z 0 0) f in
            absurd (omega (arith, get_or-replicate {A = ℕ} k 0 1 0 w.some))

-- ---- where the checks are passed, and on every input
pub both_evenly_wider : BothEvenly SameDay
both_evenly_wider q k w same closed dates flags c rule forward = forward_kept q k w closed dates flags c
both_evenly_wider q k w same closed dates flags c rule backward = backward_kept q k w closed dates flags c same

pub both_agree_wider : BothAgree SameDay
unfolding build_of admitted
both_agree_wider q k w same closed dates flags = by (first_row (input_rows (under Backward q) closed dates flags)) refl
  where
    by : (x : ℕ) → first_row (input_rows (under Backward q) closed dates flags) ≡ x → build_of (under Forward q) closed dates flags ≡ build_of (under Backward q) closed dates flags
    by zero h =
        let c = passes_under q.rule (under Backward q) closed dates flags (passed (under Backward q) closed dates flags h) in
        settled_evenly (both_evenly_wider q k w same closed dates flags c Forward forward) (both_evenly_wider q k w same closed dates flags c Backward backward)
    by (suc x) h = rw (ap first_row (same_rows q k w closed dates flags) ∙ h, h) refl

pub agree_exactly : AgreeExactly
agree_exactly q k w closed dates flags c fits = (differ q k w closed dates flags c fits, λ same. both_agree_wider q k w same closed dates flags)

-- ---- so with a day of at most 28
pub both_evenly : BothEvenly EarlyDay
both_evenly q k w h = both_evenly_wider q k w (early_same q k w h)

pub both_agree : BothAgree EarlyDay
both_agree q k w h = both_agree_wider q k w (early_same q k w h)
