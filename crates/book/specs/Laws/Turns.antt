-- A request's turn writes its own places alone.
-- Assumes nothing.
use Prim.Native.Nat.{ℕ, suc, ◌+◌, ◌-◌, ◌*◌, ◌≤◌, min}
use Rattle.std.specs.Prelude.{◌≡◌, refl, List, [], ◌∷◌, length}
use Rattle.std.proofs.Common.{sym, ◌∙◌, arith}
use Rattle.refusal.specs.Answer.{Answer, given, refused, then}
use Rattle.refusal.specs.Laws.Answers.{then_stepped}
use Rattle.steps.specs.Build.{over, dates_after, flags_after}
use Rattle.steps.specs.Entries.{Entries, paid_of, unadjusted_after}
use Rattle.steps.specs.Laws.Entries.{as_many_unadjusted}
use Rattle.book.specs.Book.{call_of, call_in, count_of, four_numbers, Lists, on_part, turned, on_call, booked}
use Rattle.book.specs.Places.{then_takes, takes}
use Rattle.book.specs.Laws.Counts.{call_flagged, count_fits}
use Rattle.book.specs.Laws.Within.{Within, within_none, within_on, over_within}

-- ---- what an outcome lays over the three lists
unfoldable pub dates_in : Answer Entries → List ℕ
dates_in (given e) = e.schedule.dates
dates_in (refused n) = []

unfoldable pub flags_in : Answer Entries → List ℕ
flags_in (given e) = e.schedule.flags
flags_in (refused n) = []

unfoldable pub unadjusted_in : Answer Entries → List ℕ
unadjusted_in (given e) = e.unadjusted
unadjusted_in (refused n) = []

pub dates_over : (o : Answer Entries) (old : List ℕ) → over (dates_in o) old ≡ dates_after (paid_of o) old
unfolding dates_in over dates_after paid_of then
dates_over (given e) old = refl
dates_over (refused n) old = refl

pub flags_over : (o : Answer Entries) (old : List ℕ) → over (flags_in o) old ≡ flags_after (paid_of o) old
unfolding flags_in over flags_after paid_of then
flags_over (given e) old = refl
flags_over (refused n) old = refl

pub unadjusted_over : (o : Answer Entries) (old : List ℕ) → over (unadjusted_in o) old ≡ unadjusted_after o old
unfolding unadjusted_in over unadjusted_after
unadjusted_over (given e) old = refl
unadjusted_over (refused n) old = refl

-- as many as the count says, and a flag fewer
pub record Counted (o : Answer Entries) : Type 0 where
  pub dates : length (dates_in o) ≡ count_of o
  pub flags : length (flags_in o) ≡ count_of o - 1
  pub unadjusted : length (unadjusted_in o) ≡ count_of o

pub call_counted : (r : List ℕ) (room : ℕ) → Counted (call_in r room)
unfolding count_of dates_in flags_in unadjusted_in call_of
call_counted r room = by (call_in r room) refl
  where
    by : (o : Answer Entries) → call_in r room ≡ o → Counted o
    by (given e) h =
        let f = (call_flagged r room e h).between_dates in
        let t = then_stepped _ _ e h in
        record { dates = refl; flags = omega (arith, f); unadjusted = as_many_unadjusted t.value.request t.value.closed room room room e t.to }
    by (refused n) h = record { dates = refl; flags = refl; unadjusted = refl }

pub four : (start : ℕ) (o : Answer Entries) → length (four_numbers start o) ≡ 4
unfolding four_numbers
four start (given e) = refl
four start (refused n) = refl

-- ---- the lists before and after: so many places of three of them, from a start on, and the answers from i to j
pub record Apart (start end i j : ℕ) (l l' : Lists) : Type 0 where
  pub dates : Within start end l.dates l'.dates
  pub flags : Within start end l.flags l'.flags
  pub unadjusted : Within start end l.unadjusted l'.unadjusted
  pub answers : Within (4 * i) (4 * j) l.answers l'.answers

pub record Long (start i : ℕ) (l : Lists) : Type 0 where
  pub flags : length l.dates ≡ length l.flags
  pub unadjusted : length l.dates ≡ length l.unadjusted
  pub within : start ≤ length l.dates
  pub places : 4 * i ≤ length l.answers

pub long_less : {start i j : ℕ} {l : Lists} → i ≤ j → Long start j l → Long start i l
long_less {i = i} {j = j} h p =
    let q = p.places in
    record { flags = p.flags; unadjusted = p.unadjusted; within = p.within; places = omega (arith, q, h) }

over_as : (a b : ℕ) (new l : List ℕ) (change : List ℕ → List ℕ) → ((old : List ℕ) → over new old ≡ change old) → a + length new ≤ length l → a + length new ≤ b → Within a b l (on_part a change l)
unfolding on_part
over_as a b new l change e h k = rw (← e _) (over_within a new l h b k)

module _ (r : List ℕ) (i start : ℕ) (l : Lists) (p : Long start (suc i) l) where
  pub turn_apart : Apart start (start + count_of (call_in r (length l.dates - start))) i (suc i) l (turned i start (call_in r (length l.dates - start)) l)
  unfolding turned
  turn_apart =
      let o = call_in r (length l.dates - start) in
      let c : Counted o = call_counted r (length l.dates - start) in
      let f : count_of o ≤ min (length l.dates - start) 4096 = count_fits r (length l.dates - start) in
      let w = p.within in
      let a = p.flags in
      let u = p.unadjusted in
      let s = p.places in
      let n = four start o in
      let x = c.dates in
      let y = c.flags in
      let z = c.unadjusted in
      record {
        dates = over_as start (start + count_of o) (dates_in o) l.dates (dates_after (paid_of o)) (dates_over o) (omega (arith, f, w, x)) (omega (arith, x));
        flags = over_as start (start + count_of o) (flags_in o) l.flags (flags_after (paid_of o)) (flags_over o) (omega (arith, f, w, y, a)) (omega (arith, y));
        unadjusted = over_as start (start + count_of o) (unadjusted_in o) l.unadjusted (unadjusted_after o) (unadjusted_over o) (omega (arith, f, w, z, u)) (omega (arith, z));
        answers = over_within (4 * i) (four_numbers start o) l.answers (omega (arith, n, s)) (4 * suc i) (omega (arith, n));
      }

pub long_on : {start end i j k : ℕ} {l l' : Lists} → Apart start end i j l l' → Long start k l → end ≤ length l.dates → Long end k l'
long_on a p h =
    let d = a.dates.size in
    let s = a.answers.size in
    let q = p.places in
    record {
      flags = d ∙ p.flags ∙ sym a.flags.size;
      unadjusted = d ∙ p.unadjusted ∙ sym a.unadjusted.size;
      within = omega (arith, d, h);
      places = omega (arith, s, q);
    }

pub apart_on : {start mid end i j k : ℕ} {l l' l'' : Lists} → start ≤ mid → mid ≤ end → i ≤ j → j ≤ k → Apart start mid i j l l' → Apart mid end j k l' l'' → Apart start end i k l l''
apart_on {i = i} {j = j} {k = k} h g m n p q =
    record {
      dates = within_on h g p.dates q.dates;
      flags = within_on h g p.flags q.flags;
      unadjusted = within_on h g p.unadjusted q.unadjusted;
      answers = within_on (omega (arith, m)) (omega (arith, n)) p.answers q.answers;
    }

-- ---- requests take no more places than there are
pub takes_fit : (rs : List (List ℕ)) (room : ℕ) → takes rs room ≤ room
unfolding takes then_takes
takes_fit [] room = omega arith
takes_fit (r ∷ rs) room =
    let c = count_fits r room in
    let t = takes_fit rs (room - count_of (call_in r room)) in
    omega (arith, c, t)

-- ---- a book writes no other places
pub booked_apart : (rs : List (List ℕ)) (i start : ℕ) (l : Lists) → Long start (i + length rs) l → Apart start (start + takes rs (length l.dates - start)) i (i + length rs) l (booked rs i start l)
unfolding booked on_call takes then_takes
booked_apart [] i start l p = record { dates = within_none _ _ _; flags = within_none _ _ _; unadjusted = within_none _ _ _; answers = within_none _ _ _ }
booked_apart (r ∷ rs) i start l p =
    let o = call_in r (length l.dates - start) in
    let l' = turned i start o l in
    let f : count_of o ≤ min (length l.dates - start) 4096 = count_fits r (length l.dates - start) in
    let w = p.within in
    let k : i + length (r ∷ rs) ≡ suc i + length rs = omega arith in
    let q : Long start (suc i + length rs) l = rw k at p in
    let a = turn_apart r i start l (long_less (omega arith) q) in
    let e : count_of o ≤ length l.dates - start = omega (arith, f) in
    let b = booked_apart rs (suc i) (start + count_of o) l' (long_on a q (omega (arith, e, w))) in
    let d = a.dates.size in
    let g : length l'.dates - (start + count_of o) ≡ length l.dates - start - count_of o = omega (arith, d) in
    let t : start + count_of o + takes rs (length l'.dates - (start + count_of o)) ≡ start + (count_of o + takes rs (length l.dates - start - count_of o)) = rw g (omega arith) in
    let c : Apart (start + count_of o) (start + (count_of o + takes rs (length l.dates - start - count_of o))) (suc i) (suc i + length rs) l' (booked rs (suc i) (start + count_of o) l') = rw t at b in
    rw k (apart_on (omega arith) (omega arith) (omega arith) (omega arith) a c)
