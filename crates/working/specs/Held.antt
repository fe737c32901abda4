-- Laws of the dates that stand in the working lists.
-- Assumes nothing.
use Rattle.std.specs.Prelude.{◌≡◌, refl, Bool, true, false, List, [], ◌∷◌, ℕ, ◌+◌, ◌-◌, ◌≤◌, ◌<◌, length, take}
use Rattle.std.proofs.Common.{sym, ap, ◌∙◌, arith, length-drop, drop_of_length-le, length-take-le}
use Rattle.std.proofs.lemmas.List.{length-reverse}
use borrow.Author.Tests.{lt-ltb, le-ltb}
use Rattle.refusal.specs.Answer.{Answer, given, ROOM}
use Rattle.refusal.specs.Laws.Answers.{need_given}
use Rattle.steps.specs.Generate.{Lists, nothing, newest, onto, has_room_in, put}
use Rattle.working.specs.Step.{Step}
use Rattle.working.specs.Part.{Work, Part, held, last_put, last_day}

pub put_length : (back : Bool) (l : List ℕ) (n : ℕ) → length l ≡ 4096 → n ≤ 4096 → length (last_put back n l) ≡ n
unfolding last_put
put_length true l n s h = length-drop (4096 - n) l ∙ rw s (omega arith)
put_length false l n s h = length-reverse (take n l) ∙ length-take-le n l (omega arith)

module _ (back : Bool) {room n : ℕ} {w : Work} (p : Part room n w) where
  pub held_length : length (held back n w).dates ≡ n
  unfolding held
  held_length = put_length back w.days n p.work_size (omega (arith, p))

  pub no_room : room ≤ n → has_room_in room (held back n w) ≡ false
  unfolding has_room_in
  no_room h = le-ltb (length (held back n w).dates) room (let l = held_length in omega arith)

  pub has_room : n < room → has_room_in room (held back n w) ≡ true
  unfolding has_room_in
  has_room h = lt-ltb (length (held back n w).dates) room (let l = held_length in omega arith)

-- nothing has been put yet
pub none_put : (back : Bool) (l : List ℕ) → length l ≡ 4096 → last_put back 0 l ≡ []
unfolding last_put
none_put true l s = drop_of_length-le l {i = 4096} (omega arith)
none_put false l s = refl

pub held_none : (back : Bool) {room : ℕ} {w : Work} → Part room 0 w → held back 0 w ≡ nothing
unfolding held
held_none back {room} {w} p = rw (none_put back w.days p.work_size, none_put back w.marks p.marks_size) refl

-- the newest date is that of the dates alone
pub newest_alone : (back : Bool) (n : ℕ) (w : Work) → last_day back n w.days ≡ newest (held back n w)
unfolding held last_day
newest_alone back n w = refl

-- a date that was put is the newest
pub put_is_newest : (room day mark : ℕ) (l m : Lists) → given m ≡ put room day mark l → newest m ≡ day
unfolding put
put_is_newest room day mark l m h =
    let w : given (onto day mark l) ≡ given m = (need_given ROOM (has_room_in room l) _ m (sym h)).1 in
    let v : m ≡ onto day mark l = cc in
    rw v refl

-- and the others are those of before
pub put_dates : (room day mark : ℕ) (l m : Lists) → given m ≡ put room day mark l → m.dates ≡ day ∷ l.dates
unfolding put
put_dates room day mark l m h =
    let w : given (onto day mark l) ≡ given m = (need_given ROOM (has_room_in room l) _ m (sym h)).1 in
    let v : m ≡ onto day mark l = cc in
    rw v refl

-- so there is one more
pub put_counts : (back : Bool) {room n m : ℕ} {w w' : Work} → Part room n w → Part room m w' → (day mark : ℕ) → given (held back m w') ≡ put room day mark (held back n w) → m ≡ n + 1
put_counts back {room} {n} {m} {w} {w'} p p' day mark h =
    let a = held_length back p in
    let b = held_length back p' in
    let c = ap length (put_dates room day mark (held back n w) (held back m w') h) in
    omega (arith, a, b, c)

-- the day that the code read is the newest date
pub newest_read : (back : Bool) {room n : ℕ} {w : Work} (day : ℕ) → Part room n w → (length w.days ≡ 4096 → n < 4097 → day ≡ last_day back n w.days) → day ≡ newest (held back n w)
newest_read back {n = n} {w = w} day p at = at p.work_size (omega (arith, p)) ∙ newest_alone back n w

-- a list that is empty yet
pub put_onto_none : {C : Type 0} {view : C → Lists} {Keeps : C → Type 0} {r : Answer C} (back : Bool) (room day mark : ℕ) (w : Work) → Step (Part room 0 w) view Keeps (put room day mark (held back 0 w)) r → Step (Part room 0 w) view Keeps (put room day mark nothing) r
put_onto_none back room day mark w s = record { run = λ p. rw (held_none back p) at (s.run p) }
