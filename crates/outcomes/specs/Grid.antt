-- The grid of twentieths of a rule, and the date of it that lies next on either side of a day; of any month, the twentieths on either side.
-- Assumes nothing.
use Rattle.std.specs.Prelude.{ℕ, ◌+◌, ◌-◌, ◌/◌, ◌%◌, ◌≤◌, ◌<◌, min, ◌≡◌, Bool, ltb}
use Rattle.std.proofs.Math.Path.{refl, sym}
use Rattle.std.proofs.Common.{ap, ◌∙◌, arith, le_antisymm}
use Rattle.std.proofs.Math.Logic.{⊎_elim}
use Rattle.std.proofs.Math.Bool.{true, false}
use borrow.Author.Tests.{ltb-true, ltb-false}
use Rattle.refusal.specs.Answer.{Answer, given, then}
use Rattle.date.specs.Civil.{fields_of, month_length, day_number}
use Rattle.date.specs.Date.{in_book, month_index, in_month, step, shift_months}
use Rattle.date.specs.Laws.Months.{length_ge}
use Rattle.date.specs.Laws.Round.{day_of_fields}
use Rattle.date.specs.Laws.Order.{month_day_kept}
use Rattle.date.specs.Laws.Moves.{book_from}
use Rattle.imm.specs.Laws.Order.{month_le}
use Rattle.steps.specs.declared.Rule.{Rule}
use Rattle.steps.specs.Rules.{in_imm_months}
use Rattle.steps.specs.Twentieths.{twentieth_of, moved_if}
use Rattle.outcomes.specs.Laws.Span.{InSpan, le_or_lt, month_span, month_of_lem, month_there, since}
use Rattle.outcomes.specs.Laws.Days.{index_fields, made_as, later}

-- ---- what is said: the grid of a rule, and the date of it that lies next on either side
-- a 20th from 1800 to 2399, for the rules limited to IMM months one of March, June, September or December
pub record Grid (rule : Rule) (t : ℕ) : Type 0 where
  pub span : InSpan t
  pub day : (fields_of t).day ≡ 20
  pub month : in_imm_months rule ≡ true → (fields_of t).month % 3 ≡ 0

pub record Latest (rule : Rule) (d t : ℕ) : Type 0 where
  pub grid : Grid rule t
  pub before : t ≤ d
  pub greatest : (u : ℕ) → Grid rule u → u ≤ d → u ≤ t

pub record Earliest (rule : Rule) (d t : ℕ) : Type 0 where
  pub grid : Grid rule t
  pub after : d ≤ t
  pub least : (u : ℕ) → Grid rule u → d ≤ u → t ≤ u

-- an answer that gives something of which P holds
pub record Gives {A : Type 0} (P : A → Type 0) (x : Answer A) : Type 0 where
  pub value : A
  pub is : x ≡ given value
  pub has : P value

-- no two dates are so
pub latest_once : (rule : Rule) (d t t' : ℕ) → Latest rule d t → Latest rule d t' → t ≡ t'
latest_once rule d t t' l l' = le_antisymm (l'.greatest t l.grid (omega (arith, l.before))) (l.greatest t' l'.grid (omega (arith, l'.before)))

pub earliest_once : (rule : Rule) (d t t' : ℕ) → Earliest rule d t → Earliest rule d t' → t ≡ t'
earliest_once rule d t t' l l' = le_antisymm (l.least t' l'.grid l'.after) (l'.least t l.grid l.after)

-- ---- answers
pub gives : {A : Type 0} {P : A → Type 0} (a : A) → P a → Gives P (given a)
gives a h = record { value = a; is = refl; has = h }

pub stepped : {A B : Type 0} {P : A → Type 0} {Q : B → Type 0} {x : Answer A} {f : A → Answer B} → Gives P x → ((a : A) → P a → Gives Q (f a)) → Gives Q (then x f)
unfolding then
stepped g s = rw g.is (s g.value g.has)

pub weaker : {A : Type 0} {P Q : A → Type 0} {x : Answer A} → Gives P x → ((a : A) → P a → Q a) → Gives Q x
weaker g s = record { value = g.value; is = g.is; has = s g.value g.has }

-- ---- the twentieth of a month, counted as 12 * year + month - 1
pub record IsTwentieth (s t : ℕ) : Type 0 where
  pub span : InSpan t
  pub index : month_index t ≡ s
  pub day : (fields_of t).day ≡ 20

pub twentieth_number : {s t : ℕ} → IsTwentieth s t → t ≡ day_number (s / 12) (s % 12 + 1) 20
twentieth_number {s} {t} w =
    let i = index_fields t in
    let y : (fields_of t).year ≡ s / 12 = sym i.0 ∙ ap (λ (k : ℕ). k / 12) w.index in
    let m : (fields_of t).month ≡ s % 12 + 1 = sym i.1 ∙ ap (λ (k : ℕ). k % 12 + 1) w.index in
    sym (day_of_fields t (omega (arith, w.span.low))) ∙ (λ k. day_number (y k) (m k) (w.day k))

pub twentieth_month : {s t : ℕ} → IsTwentieth s t → (fields_of t).month % 3 ≡ (s + 1) % 3
twentieth_month {s} {t} w =
    let m : (fields_of t).month ≡ s % 12 + 1 = sym (index_fields t).1 ∙ ap (λ (k : ℕ). k % 12 + 1) w.index in
    omega arith

-- a later month has a later one
pub twentieth_le : {s s' t t' : ℕ} → IsTwentieth s t → IsTwentieth s' t' → s ≤ s' → t ≤ t'
twentieth_le {s} {s'} {t} {t'} w w' h = ⊎_elim (λ (l : t ≤ t'). l) (λ (l : t' < t). absurd (no l)) (le_or_lt t t')
  where
    no : t' < t → ⊥
    no l =
        let m = month_le t' t (omega (arith, w'.span.low)) (omega arith) in
        let e : s ≡ s' = omega (arith, w.index, w'.index) in
        let q : t ≡ t' = twentieth_number w ∙ ap (λ (k : ℕ). day_number (k / 12) (k % 12 + 1) 20) e ∙ sym (twentieth_number w') in
        omega arith

pub in_month_lem : (s : ℕ) → 21600 ≤ s → s ≤ 28799 → Gives (IsTwentieth s) (in_month s 20)
in_month_lem s a b =
    let e = month_there s 20 (omega arith) a b in
    let l : min 20 (month_length (s / 12) (s % 12 + 1)) ≡ 20 = omega (arith, length_ge (s / 12) (s % 12 + 1) (omega arith)) in
    record { value = _; is = e; has = record { span = month_span s 20 _ e; index = month_of_lem s 20 _ e; day = ap (λ f. f.day) (month_day_kept s 20 _ e) ∙ l } }

pub shift : (back : Bool) (k s t : ℕ) → IsTwentieth s t → 21600 ≤ step back s k → step back s k ≤ 28799 → Gives (IsTwentieth (step back s k)) (shift_months t back k)
unfolding shift_months
shift back k s t w a b = rw (w.index, w.day) (in_month_lem (step back s k) a b)

-- ---- of any month: the last twentieth on or before a date, and the first on or after it
pub record Last (d t : ℕ) : Type 0 where
  pub own : IsTwentieth (month_index t) t
  pub low : 22811 ≤ month_index t
  pub high : month_index t ≤ 26399
  pub upto : t ≤ d
  pub most : (s u : ℕ) → IsTwentieth s u → u ≤ d → s ≤ month_index t

pub record First (d t : ℕ) : Type 0 where
  pub own : IsTwentieth (month_index t) t
  pub low : 22812 ≤ month_index t
  pub high : month_index t ≤ 26400
  pub after : d ≤ t
  pub fewest : (s u : ℕ) → IsTwentieth s u → d ≤ u → month_index t ≤ s

itself : {s t : ℕ} → IsTwentieth s t → IsTwentieth (month_index t) t
itself w = record { span = w.span; index = refl; day = w.day }

module _ (d : ℕ) (b : in_book d ≡ true) where
  pub start : Gives (IsTwentieth (month_index d)) (twentieth_of d)
  unfolding twentieth_of
  start = let i = since d b in rw (made_as d 20 (omega arith)) (in_month_lem (month_index d) (omega (arith, i.0)) (omega (arith, i.1)))

  within : {s u : ℕ} → IsTwentieth s u → u ≤ d → s ≤ month_index d
  within {s} {u} w h = omega (arith, w.index, month_le u d (omega (arith, w.span.low)) h)

  beyond : {s u : ℕ} → IsTwentieth s u → d ≤ u → month_index d ≤ s
  beyond {s} {u} w h = omega (arith, w.index, month_le d u (omega (arith, book_from d b)) h)

  one_back : (t : ℕ) → IsTwentieth (month_index d) t → (c : Bool) → ltb d t ≡ c → Gives (Last d) (moved_if c true 1 t)
  unfolding moved_if step
  one_back t w true e =
      let i = since d b in
      let l : d < t = ltb-true d t e in
      weaker (shift true 1 (month_index d) t w (omega (arith, i.0)) (omega (arith, i.1))) (λ r v. record {
        own = itself v;
        low = omega (arith, i.0, v.index);
        high = omega (arith, i.1, v.index);
        upto = later r d (month_index d - 1) (omega (arith, book_from d b)) v.index (omega (arith, i.0));
        most = λ s u x h. ⊎_elim (λ (k : s ≤ month_index r). k) (λ (k : month_index r < s). absurd (let bad : ⊥ = omega (arith, twentieth_le w x (omega (arith, v.index))) in bad)) (le_or_lt s (month_index r));
      })
  one_back t w false e =
      let i = since d b in
      gives t (record { own = itself w; low = omega (arith, i.0, w.index); high = omega (arith, i.1, w.index); upto = ltb-false d t e; most = λ s u x h. omega (arith, w.index, within x h) })

  pub one_on : (t : ℕ) → IsTwentieth (month_index d) t → (c : Bool) → ltb t d ≡ c → Gives (First d) (moved_if c false 1 t)
  unfolding moved_if step
  one_on t w true e =
      let i = since d b in
      let l : t < d = ltb-true t d e in
      weaker (shift false 1 (month_index d) t w (omega (arith, i.0)) (omega (arith, i.1))) (λ r v. record {
        own = itself v;
        low = omega (arith, i.0, v.index);
        high = omega (arith, i.1, v.index);
        after = later d r (month_index d) (omega (arith, v.span.low)) refl (omega (arith, v.index));
        fewest = λ s u x h. ⊎_elim (λ (k : month_index r ≤ s). k) (λ (k : s < month_index r). absurd (let bad : ⊥ = omega (arith, twentieth_le x w (omega (arith, v.index))) in bad)) (le_or_lt (month_index r) s);
      })
  one_on t w false e =
      let i = since d b in
      gives t (record { own = itself w; low = omega (arith, i.0, w.index); high = omega (arith, i.1, w.index); after = ltb-false t d e; fewest = λ s u x h. omega (arith, w.index, beyond x h) })

  -- the step that the rule asks for goes from there
  pub record Reached : Type 0 where
    pub twentieth : ℕ
    pub last : Last d twentieth
    pub onward : (f : ℕ → Answer ℕ) → then (twentieth_of d) (λ t. then (moved_if (ltb d t) true 1 t) f) ≡ f twentieth

  pub reached : Reached
  unfolding then
  reached =
      let w = one_back start.value start.has (ltb d start.value) refl in
      record { twentieth = w.value; last = w.has; onward = λ f. rw start.is (rw w.is refl) }
