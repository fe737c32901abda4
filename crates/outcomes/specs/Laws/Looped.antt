-- The loop over the candidates is refused with 13 or 14 if at all: it ends within one tenor of the exit date, long before the candidates do.
-- Assumes nothing.
use Prim.Native.Nat.{ℕ, zero, suc, ◌+◌, ◌-◌, ◌*◌, ◌≤◌, ◌<◌}
use Rattle.std.specs.Prelude.{◌≡◌, Bool, ◌&&◌, List, eqb}
use Rattle.std.proofs.Math.Path.{refl}
use Rattle.std.proofs.Math.Bool.{true, false}
use Rattle.std.proofs.Common.{arith, suc-mul}
use Rattle.std.proofs.Math.Nat.{le-mul_of_pos_right}
use borrow.Author.Tests.{leb-true, ltb-false}
use Rattle.refusal.specs.Answer.{Answer, given}
use Rattle.period.specs.declared.Unit.{Unit as TimeUnit}
use Rattle.period.specs.declared.Unit.TheVariants.{Days, Weeks, Months, Years}
use Rattle.date.specs.Civil.{fields_of, pick_n}
use Rattle.date.specs.Date.{SPAN_LAST, in_book, month_index, step}
use Rattle.date.specs.Laws.Round.{fields_valid}
use Rattle.date.specs.Laws.Moves.{book_from, book_le}
use Rattle.imm.specs.Laws.Order.{month_le}
use Rattle.calendar.specs.declared.Convention.{Convention}
use Rattle.calendar.specs.Calendar.{longest, tenor_ok}
use Rattle.steps.specs.declared.Pace.{Pace}
use Rattle.steps.specs.declared.Seed.{Seed}
use Rattle.steps.specs.Rules.{pace_by}
use Rattle.steps.specs.Candidates.{Turn, past, skip, keep, last_day, seed_of, candidate_by, candidate, is_past, unless_same, unless_past, turn_of}
use Rattle.steps.specs.Generate.{Lists, Walk, newest, on_turn, walk}
use Rattle.outcomes.specs.Laws.Span.{since}
use Rattle.outcomes.specs.Late.{Fine, gives, steps}
use Rattle.outcomes.specs.Laws.Searched.{Asks, within_fine}
use Rattle.outcomes.specs.Laws.Days.{InMonth, month_fine, At, adjust_fine, Mid, mid_at}
use Rattle.outcomes.specs.Laws.Listed.{Good, put_fine}

-- a tenor of 3,640 days or 1,200 months at most
abbrev longest_pace : Bool → ℕ
longest_pace true = 1200
longest_pace false = 3640

pub record PaceOk (pace : Pace) : Type 0 where
  pub some : 1 ≤ pace.size
  pub small : pace.size ≤ longest_pace pace.monthly

pub pace_ok : (n : ℕ) (u : TimeUnit) → 1 ≤ n → tenor_ok n u ≡ true → PaceOk (pace_by n u)
unfolding pace_by tenor_ok longest
pace_ok n Days h t = record { some = h; small = omega (arith, leb-true n 366 t) }
pace_ok n Weeks h t = record { some = omega arith; small = omega (arith, leb-true n 520 t) }
pace_ok n Months h t = record { some = h; small = omega (arith, leb-true n 1200 t) }
pace_ok n Years h t = record { some = omega arith; small = omega (arith, leb-true n 100 t) }

pub record SeedOk (seed : Seed) : Type 0 where
  pub mid : Mid seed.day
  pub month : seed.month ≡ month_index seed.day
  pub day : 1 ≤ seed.keep

kept_day : (b : Bool) (n : ℕ) → 1 ≤ n → 1 ≤ pick_n b 31 n
kept_day true n h = omega arith
kept_day false n h = h

pub seed_ok : (monthend : Bool) (day : ℕ) → Mid day → SeedOk (seed_of monthend day)
unfolding seed_of
seed_ok monthend day m = record { mid = m; month = refl; day = kept_day (monthend && last_day day) (fields_of day).day (fields_valid day).first }

-- x days or months from the seed, backwards not before the book, forwards not after 2200
abbrev pub Reach : Bool → Bool → Seed → ℕ → Type 0
Reach false true seed x = 693961 ≤ seed.day - x
Reach false false seed x = seed.day + x ≤ 803534
Reach true true seed x = 22812 ≤ seed.month - x
Reach true false seed x = seed.month + x ≤ 26411

-- the day that y days or months lead to
abbrev Landed : Bool → Bool → Seed → ℕ → ℕ → Type 0
Landed false back seed y r = r ≡ step back seed.day y
Landed true back seed y r = InMonth (step back seed.month y) r

module _ (seed : Seed) (s : SeedOk seed) where
  seed_at : At 0 seed.day
  seed_at = mid_at seed.day s.mid

  pub candidate_fine : {c : Type 0} (monthly back : Bool) (x n y : ℕ) → n ≤ longest_pace monthly → y ≡ x + n → Reach monthly back seed x → Fine c (Landed monthly back seed y) (candidate_by monthly back seed y)
  unfolding candidate_by step
  candidate_fine false true x n y l e h = within_fine (seed.day - y) (omega arith) (omega (arith, seed_at.high)) refl
  candidate_fine false false x n y l e h = within_fine (seed.day + y) (omega (arith, seed_at.low)) (omega arith) refl
  candidate_fine true true x n y l e h = month_fine (seed.month - y) seed.keep s.day (omega arith) (omega (arith, s.month, s.mid.to))
  candidate_fine true false x n y l e h = month_fine (seed.month + y) seed.keep s.day (omega (arith, s.month, s.mid.from)) (omega arith)

  -- there are few
  few : (monthly back : Bool) (x : ℕ) → Reach monthly back seed x → x < SPAN_LAST
  few false true x h = omega (arith, seed_at.high)
  few false false x h = omega arith
  few true true x h = omega (arith, s.month, s.mid.to)
  few true false x h = omega arith

  -- a candidate that is not beyond the exit date, which lies in the book
  module _ (exit : ℕ) (b : in_book exit ≡ true) (r y : ℕ) where
    reach_on : (monthly back : Bool) → Landed monthly back seed y r → is_past back exit r ≡ false → Reach monthly back seed y
    unfolding is_past step
    reach_on false true i e = omega (arith, ltb-false r exit e, book_from exit b)
    reach_on false false i e = omega (arith, ltb-false exit r e, book_le exit b)
    reach_on true true i e = omega (arith, i.index, (since exit b).0, month_le exit r (omega (arith, book_from exit b)) (ltb-false r exit e))
    reach_on true false i e = omega (arith, i.index, (since exit b).1, month_le r exit (omega (arith, i.span.low)) (ltb-false exit r e))

    mid_on : (monthly back : Bool) → Landed monthly back seed y r → is_past back exit r ≡ false → Mid r
    unfolding is_past step
    mid_on false true i e = record { span = record { low = omega (arith, ltb-false r exit e, book_from exit b); high = omega (arith, seed_at.high) }; from = omega (arith, (since exit b).0, month_le exit r (omega (arith, book_from exit b)) (ltb-false r exit e)); to = omega (arith, s.mid.to, month_le r seed.day (omega (arith, ltb-false r exit e, book_from exit b)) (omega arith)) }
    mid_on false false i e = record { span = record { low = omega (arith, seed_at.low); high = omega (arith, ltb-false exit r e, book_le exit b) }; from = omega (arith, s.mid.from, month_le seed.day r (omega (arith, seed_at.low)) (omega arith)); to = omega (arith, (since exit b).1, month_le r exit (omega (arith, seed_at.low)) (ltb-false exit r e)) }
    mid_on true true i e = record { span = i.span; from = omega (arith, (since exit b).0, month_le exit r (omega (arith, book_from exit b)) (ltb-false r exit e)); to = omega (arith, i.index, s.month, s.mid.to) }
    mid_on true false i e = record { span = i.span; from = omega (arith, i.index, s.month, s.mid.from); to = omega (arith, (since exit b).1, month_le r exit (omega (arith, i.span.low)) (ltb-false exit r e)) }

  -- ---- what a candidate does, and the loop
  module _ {c : Type 0} (mask : ℕ) (closed : List ℕ) (convention : Convention) (asks : Asks c convention) (back : Bool) (pace : Pace) (p : PaceOk pace) (exit : ℕ) (b : in_book exit ≡ true) (room : ℕ) where
    abbrev turn : ℕ → ℕ → Answer Turn
    turn = turn_of mask closed convention back pace seed exit

    abbrev TurnIs : ℕ → Turn → Type 0
    TurnIs y past = Unit {0}
    TurnIs y skip = Reach pace.monthly back seed y
    TurnIs y (keep d) = Mid d × Reach pace.monthly back seed y

    same_fine : (t : Bool) (r y : ℕ) → Mid r → Reach pace.monthly back seed y → Fine c (TurnIs y) (given (unless_same t r))
    unfolding unless_same
    same_fine true r y m h = gives skip h
    same_fine false r y m h = gives (keep r) (m, h)

    past_fine : (t : Bool) (front r y : ℕ) → is_past back exit r ≡ t → Mid front → Landed pace.monthly back seed y r → Fine c (TurnIs y) (unless_past t mask closed convention front r)
    unfolding unless_past
    past_fine true front r y e m i = gives past tt
    past_fine false front r y e m i =
        let n = mid_on exit b r y pace.monthly back i e in
        steps _ (adjust_fine 0 front (omega arith) (mid_at _ m) mask closed convention asks) (λ u _.
        steps _ (adjust_fine 0 r (omega arith) (mid_at _ n) mask closed convention asks) (λ v _.
        same_fine (eqb u v) r y n (reach_on exit b r y pace.monthly back i e)))

    turn_fine : (front i : ℕ) → Mid front → Reach pace.monthly back seed (i * pace.size) → Fine c (TurnIs (suc i * pace.size)) (turn front (suc i))
    unfolding turn_of candidate
    turn_fine front i m h = steps _ (candidate_fine pace.monthly back (i * pace.size) pace.size (suc i * pace.size) p.small (suc-mul i pace.size) h) (λ r l. past_fine (is_past back exit r) front r (suc i * pace.size) refl m l)

    abbrev GoodWalk : Walk → Type 0
    GoodWalk w = Good w.lists

    on_fine : (t : Turn) (i : ℕ) (l : Lists) (again : Lists → Answer Walk) → Good l → TurnIs (suc i * pace.size) t → ((m : Lists) → Good m → Reach pace.monthly back seed (suc i * pace.size) → Fine c GoodWalk (again m)) → Fine c GoodWalk (on_turn room t (suc i) l again)
    unfolding on_turn
    on_fine past i l again g h s = gives _ g
    on_fine skip i l again g h s = s l g h
    on_fine (keep d) i l again g h s = steps _ (put_fine room d 1 l h.0 g.all) (λ m n. s m n h.1)

    pub walk_fine : (left i : ℕ) (l : Lists) → i + left ≡ SPAN_LAST → Good l → Reach pace.monthly back seed (i * pace.size) → Fine c GoodWalk (walk turn room left (suc i) l)
    unfolding walk
    walk_fine zero i l e g h = absurd (no (few pace.monthly back (i * pace.size) h))
      where
        no : i * pace.size < SPAN_LAST → ⊥
        no f = omega (arith, le-mul_of_pos_right {m = pace.size} i p.some)
    walk_fine (suc left) i l e g h = steps _ (turn_fine (newest l) i g.front h) (λ t n. on_fine t i l (walk turn room left (suc (suc i))) g n (λ m j k. walk_fine left (suc i) m (omega arith) j k))
