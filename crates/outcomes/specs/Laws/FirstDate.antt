-- A forward build that has put its first two dates never looks at the first again until its dates are moved: with another first date it generates the
-- same dates behind it, the same flags and the same tries, or is refused alike.
-- Assumes nothing.
use Prim.Native.Nat.{ℕ, zero, suc}
use Rattle.std.specs.Prelude.{◌≡◌, Bool, eqb, length}
use Rattle.std.proofs.Math.Path.{refl}
use Rattle.std.proofs.Common.{ap, sym, ◌∙◌, length-append}
use Rattle.std.proofs.Math.Bool.{true, false}
use mathlib.Core.List.{List, [], ◌∷◌, ◌++◌, reverse, reverse-append}
use Rattle.std.proofs.Math.Dec.{ltb}
use Rattle.refusal.specs.Answer.{Answer, given, refused, need, then, BOOK, ROOM}
use Rattle.refusal.specs.Laws.Answers.{never_both, one_given}
use Rattle.steps.specs.declared.Request.{Request}
use Rattle.steps.specs.Candidates.{Turn, past, skip, keep}
use Rattle.steps.specs.Generate.{Lists, Walk, Made, Opened, onto, nothing, has_room_in, put, put_unless, put_new, on_turn, walk, candidates, put_anchor, put_seed, put_closing, closing, shut, made_forth, forward_end, forward_from}

-- ---- two answers: refused alike, or both given and so related
pub data Alike {A : Type 0} (R : A → A → Type 0) : Answer A → Answer A → Type 0 where
  gave : {x y : A} → R x y → Alike R (given x) (given y)
  stopped : (n : ℕ) → Alike R (refused n) (refused n)

pub both_gave : {A : Type 0} {R : A → A → Type 0} {x y : Answer A} (a b : A) → Alike R x y → x ≡ given a → y ≡ given b → R a b
both_gave {A} {R} a b (gave {x} {y} h) e f =
    let p : x ≡ a = one_given (given x) x a refl e in
    let q : y ≡ b = one_given (given y) y b refl f in
    rw (← p, ← q) h
both_gave a b (stopped n) e f = absurd (never_both (refused n) a n e refl)

after : {A B : Type 0} {R : A → A → Type 0} {S : B → B → Type 0} {x y : Answer A} {f g : A → Answer B} → Alike R x y → ((a b : A) → R a b → Alike S (f a) (g b)) → Alike S (then x f) (then y g)
unfolding then
after (gave {x} {y} h) s = s x y h
after (stopped n) s = stopped n

onward : {A B : Type 0} {S : B → B → Type 0} (x : Answer A) {f g : A → Answer B} → ((a : A) → Alike S (f a) (g a)) → Alike S (then x f) (then x g)
unfolding then
onward (given a) s = s a
onward (refused n) s = stopped n

-- ---- lists of two dates or more that differ in the date put first, a in one and b in the other
pub data Ends (a b : ℕ) : Lists → Lists → Type 0 where
  ends : (day : ℕ) (days marks : List ℕ) → Ends a b (record { dates = day ∷ (days ++ (a ∷ [])); marks = marks }) (record { dates = day ∷ (days ++ (b ∷ [])); marks = marks })

data Walks (a b : ℕ) : Walk → Walk → Type 0 where
  walks : {l m : Lists} (tries : ℕ) → Ends a b l m → Walks a b (record { lists = l; tries = tries }) (record { lists = m; tries = tries })

pub data Opens (a b : ℕ) : Opened → Opened → Type 0 where
  opens : {l m : Lists} (seed : ℕ) → Ends a b l m → Opens a b (record { lists = l; seed = seed }) (record { lists = m; seed = seed })

-- what is generated: a or b, then the same
pub record Behind (a b : ℕ) (m n : Made) : Type 0 where
  pub later : List ℕ
  pub first : m.dates ≡ a ∷ later
  pub other : n.dates ≡ b ∷ later
  pub flags : m.flags ≡ n.flags
  pub tries : m.tries ≡ n.tries
  pub seed : m.seed ≡ n.seed

room_alike : {a b : ℕ} {l m : Lists} (c d : Bool) → c ≡ d → Ends a b l m → Alike (Ends a b) (need ROOM c (given l)) (need ROOM d (given m))
unfolding need
room_alike true d e h = rw (← e) (gave h)
room_alike false d e h = rw (← e) (stopped ROOM)

module _ (a b room : ℕ) where
  same_length : (ds : List ℕ) → length (ds ++ (a ∷ [])) ≡ length (ds ++ (b ∷ []))
  same_length ds = length-append ds (a ∷ []) ∙ sym (length-append ds (b ∷ []))

  put_alike : (day mark : ℕ) {l m : Lists} → Ends a b l m → Alike (Ends a b) (put room day mark l) (put room day mark m)
  unfolding put has_room_in
  put_alike day mark (ends d ds marks) = room_alike _ _ (ap (λ (n : ℕ). ltb (suc n) room) (same_length ds)) (ends day (d ∷ ds) (mark ∷ marks))

  -- the second date
  pub second_alike : (day mark : ℕ) → Alike (Opens a b) (put_seed room day mark (onto a 1 nothing)) (put_seed room day mark (onto b 1 nothing))
  unfolding put_seed put has_room_in
  second_alike day mark = after (room_alike (ltb 1 room) (ltb 1 room) refl (ends day [] (mark ∷ 1 ∷ []))) (λ l m h. gave (opens day h))

  unless_alike : (c : Bool) (day mark : ℕ) {l m : Lists} → Ends a b l m → Alike (Ends a b) (put_unless c room day mark l) (put_unless c room day mark m)
  unfolding put_unless
  unless_alike true day mark h = gave h
  unless_alike false day mark h = put_alike day mark h

  -- ---- the loop
  turn_alike : (t : Turn) (k : ℕ) {l m : Lists} {f g : Lists → Answer Walk} → Ends a b l m → ((l m : Lists) → Ends a b l m → Alike (Walks a b) (f l) (g m)) → Alike (Walks a b) (on_turn room t k l f) (on_turn room t k m g)
  unfolding on_turn
  turn_alike past k h s = gave (walks k h)
  turn_alike skip k {l} {m} h s = s l m h
  turn_alike (keep day) k h s = after (put_alike day 1 h) s

  walk_alike : (turn : ℕ → ℕ → Answer Turn) (left k : ℕ) {l m : Lists} → Ends a b l m → Alike (Walks a b) (walk turn room left k l) (walk turn room left k m)
  unfolding walk
  walk_alike turn zero k h = stopped BOOK
  walk_alike turn (suc left) k (ends d ds marks) = onward (turn d k) (λ t. turn_alike t k (ends d ds marks) (λ l m h. walk_alike turn left (suc k) h))

  -- ---- behind the loop
  module _ (q : Request) (closed : List ℕ) where
    anchor_alike : (anchor : ℕ) {l m : Lists} → Ends a b l m → Alike (Ends a b) (put_anchor q.mask closed q.convention room anchor l) (put_anchor q.mask closed q.convention room anchor m)
    unfolding put_anchor put_new
    anchor_alike zero h = gave h
    anchor_alike (suc n) (ends d ds marks) = onward _ (λ x. onward _ (λ y. unless_alike (eqb x y) (suc n) 0 (ends d ds marks)))

    put_closing_alike : (c : Bool) {l m : Lists} → Ends a b l m → Alike (Ends a b) (put_closing c q room l) (put_closing c q room m)
    unfolding put_closing
    put_closing_alike true h = gave h
    put_closing_alike false h = onward _ (λ day. put_alike day _ h)

    closing_alike : (l m : Lists) → Ends a b l m → Alike (Ends a b) (closing q closed room l) (closing q closed room m)
    unfolding closing
    closing_alike l m (ends d ds marks) = onward _ (λ x. onward _ (λ y. put_closing_alike (eqb x y) (ends d ds marks)))

    made_alike : (tries seed : ℕ) (l m : Lists) → Ends a b l m → Alike (Behind a b) (forward_end q closed room tries seed l) (forward_end q closed room tries seed m)
    unfolding forward_end shut
    made_alike tries seed l m h =
        after (after (anchor_alike q.penultimate.day h) (λ x y i. closing_alike x y i)) (λ x y i. gave (turned i))
      where
        turned : {x y : Lists} → Ends a b x y → Behind a b (made_forth tries seed x) (made_forth tries seed y)
        turned (ends d ds marks) = record { later = reverse (d ∷ ds); first = reverse-append (d ∷ ds) (a ∷ []); other = reverse-append (d ∷ ds) (b ∷ []); flags = refl; tries = refl; seed = refl }

    pub forward_alike : (o p : Opened) → Opens a b o p → Alike (Behind a b) (forward_from q closed room o) (forward_from q closed room p)
    unfolding forward_from candidates
    forward_alike o p (opens seed h) = after (walk_alike _ _ 1 h) ended
      where
        ended : (v w : Walk) → Walks a b v w → Alike (Behind a b) (forward_end q closed room v.tries seed v.lists) (forward_end q closed room w.tries seed w.lists)
        ended v w (walks {l} {m} tries i) = made_alike tries seed l m i
