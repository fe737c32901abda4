-- More room changes nothing: what the steps of document 01 give, or refuse with another number than 14, they answer with any greater room, and with
-- 876,222 places they are never refused 14. So "the steps with no room limit" has one meaning.
-- Assumes nothing.
use Prim.Native.Nat.{ℕ, zero, suc, ◌+◌, ◌≤◌, ◌<◌}
use Rattle.std.specs.Prelude.{◌≡◌, Bool, List, eqb, length}
use Rattle.std.proofs.Math.Path.{refl}
use Rattle.std.proofs.Common.{ap, arith}
use Rattle.std.proofs.Math.Bool.{true, false}
use Rattle.std.proofs.Math.Dec.{ltb}
use borrow.Author.Tests.{lt-ltb, ltb-true, ltb-false}
use Rattle.refusal.specs.Answer.{Answer, given, refused, need, then, BOOK, ROOM}
use Rattle.refusal.specs.Laws.Answers.{never_both, one_given}
use Rattle.date.specs.Date.{SPAN_LAST}
use Rattle.calendar.specs.declared.Convention.{Convention}
use Rattle.steps.specs.declared.Request.{Request}
use Rattle.steps.specs.declared.Pace.{Pace}
use Rattle.steps.specs.declared.Seed.{Seed}
use Rattle.steps.specs.Rules.{rule_in_force, is_zero, is_backward, is_credit, on_twentieths}
use Rattle.steps.specs.Candidates.{Turn, past, skip, keep}
use Rattle.steps.specs.Generate.{Lists, Walk, Made, Opened, nothing, onto, has_room_in, put, put_unless, put_new, on_turn, last_try, walk, candidates, put_anchor, zero_dates, put_penultimate, begun, ended, backward_end, backward_from, backward, put_earlier, credit_opening, opening_by, opening, put_seed, put_first, put_coming, put_twentieth, second, put_closing, closing, opened, shut, forward_end, forward_from, forward, generate_by, generate}
use Rattle.outcomes.specs.Laws.Roomless.{Free, months, adjust, candidate_free, turn_free, previous, coming, closing_day_lem, tenor_free}
use Rattle.outcomes.specs.Laws.Roomless as free

-- ---- an answer with that room, and one with more: it is refused for room, which is less than n, or the other is the same, not refused for room, and
-- what is given has a size of at most n
pub data Under {A : Type 0} (room : ℕ) (size : A → ℕ) (n : ℕ) (x y : Answer A) : Type 0 where
  full : room < n → x ≡ refused ROOM → Under room size n x y
  same : x ≡ y → Free x → ((a : A) → x ≡ given a → size a ≤ n) → Under room size n x y

abbrev many : Lists → ℕ
many l = length l.dates

abbrev walked : Walk → ℕ
walked w = many w.lists

abbrev opened_by : Opened → ℕ
opened_by o = many o.lists

abbrev pub any : Made → ℕ
any m = 0

pub gives : {A : Type 0} {room : ℕ} {size : A → ℕ} (n : ℕ) (a : A) → size a ≤ n → Under room size n (given a) (given a)
gives {A} {room} {size} n a h = same refl (free.gives a) (λ b e. let q : a ≡ b = one_given (given a) a b refl e in rw (← q) h)

refuses : {A : Type 0} {room : ℕ} {size : A → ℕ} (n k : ℕ) → (k ≡ ROOM → ⊥) → Under room size n (refused k) (refused k)
refuses n k h = same refl (free.refuses k h) (λ b e. absurd (never_both _ b k e refl))

-- a step that knows nothing of room
pub onward : {A B : Type 0} {room : ℕ} {size : B → ℕ} {n : ℕ} (x : Answer A) {f g : A → Answer B} → Free x → ((a : A) → Under room size n (f a) (g a)) → Under room size n (then x f) (then x g)
unfolding then
onward (given a) u h = h a
onward {n = n} (refused k) u h = refuses n k (λ e. u.never (ap refused e))

-- a step after one that does
pub after : {A B : Type 0} {room : ℕ} {size : A → ℕ} {size' : B → ℕ} {n n' : ℕ} (x y : Answer A) {f g : A → Answer B} → n ≤ n' → Under room size n x y → ((a : A) → size a ≤ n → Under room size' n' (f a) (g a)) → Under room size' n' (then x f) (then y g)
unfolding then
after x y l (full h e) s = full (omega arith) (rw e refl)
after (given a) y l (same e u h) s = rw (← e) (s a (h a refl))
after {n' = n'} (refused k) y l (same e u h) s = rw (← e) (refuses n' k (λ i. u.never (ap refused i)))

module _ (r r' : ℕ) (more : r ≤ r') where
  need_room : {A : Type 0} {size : A → ℕ} {n : ℕ} (l : Lists) (x y : Answer A) → many l < n → Under r size n x y → Under r size n (need ROOM (has_room_in r l) x) (need ROOM (has_room_in r' l) y)
  unfolding need has_room_in
  need_room {A} {size} {n} l x y h u = by (ltb (many l) r) refl
    where
      by : (b : Bool) → ltb (many l) r ≡ b → Under r size n (need ROOM (ltb (many l) r) x) (need ROOM (ltb (many l) r') y)
      by true e = rw (e, lt-ltb (many l) r' (omega (arith, ltb-true (many l) r e))) u
      by false e = full (omega (arith, ltb-false (many l) r e)) (rw e refl)

  puts : {n : ℕ} (day mark : ℕ) (l : Lists) → many l < n → Under r many n (put r day mark l) (put r' day mark l)
  unfolding put
  puts {n} day mark l h = need_room l _ _ h (gives n (onto day mark l) (omega arith))

  unless : {n : ℕ} (b : Bool) (day mark : ℕ) (l : Lists) → many l < n → Under r many n (put_unless b r day mark l) (put_unless b r' day mark l)
  unfolding put_unless
  unless {n} true day mark l h = gives n l (omega arith)
  unless false day mark l h = puts day mark l h

  news : {n : ℕ} (mask : ℕ) (closed : List ℕ) (convention : Convention) (compared day mark : ℕ) (l : Lists) → many l < n → Under r many n (put_new mask closed convention r compared day mark l) (put_new mask closed convention r' compared day mark l)
  unfolding put_new
  news mask closed convention compared day mark l h = onward _ (adjust mask closed convention _) (λ a. onward _ (adjust mask closed convention _) (λ b. unless (eqb a b) day mark l h))

  -- ---- the loop
  turns : {n : ℕ} (t : Turn) (k : ℕ) (l : Lists) (f g : Lists → Answer Walk) → many l < n → ((m : Lists) → many m ≤ suc (many l) → Under r walked n (f m) (g m)) → Under r walked n (on_turn r t k l f) (on_turn r' t k l g)
  unfolding on_turn
  turns {n} past k l f g h s = gives n (record { lists = l; tries = k }) (omega arith)
  turns skip k l f g h s = s l (omega arith)
  turns (keep day) k l f g h s = after _ _ (omega arith) (puts {n = suc (many l)} day 1 l (omega arith)) s

  walks : {n : ℕ} (turn : ℕ → ℕ → Answer Turn) → ((front k : ℕ) → Free (turn front k)) → (left k : ℕ) (l : Lists) → many l + left < n → Under r walked n (walk turn r left k l) (walk turn r' left k l)
  unfolding walk
  walks {n} turn u zero k l h = refuses n BOOK (λ e. omega arith)
  walks turn u (suc left) k l h = onward _ (u _ k) (λ t. turns t k l _ _ (omega arith) (λ m s. walks turn u left (suc k) m (omega arith)))

  -- ---- the dates before and behind the loop: one or two each
  module _ {n : ℕ} (q : Request) (closed : List ℕ) where
    anchors : (anchor : ℕ) (l : Lists) → many l < n → Under r many n (put_anchor q.mask closed q.convention r anchor l) (put_anchor q.mask closed q.convention r' anchor l)
    unfolding put_anchor
    anchors zero l h = gives n l (omega arith)
    anchors (suc k) l h = news q.mask closed q.convention (suc k) (suc k) 0 l h

    penultimates : (pace : Pace) (seed : Seed) (anchor : ℕ) (l : Lists) → many l < n → Under r many n (put_penultimate pace seed r anchor l) (put_penultimate pace seed r' anchor l)
    unfolding put_penultimate
    penultimates pace seed zero l h = gives n l (omega arith)
    penultimates pace seed (suc k) l h = need_room l _ _ h (onward _ (candidate_free q.mask closed true pace seed 1) (λ day. puts (suc k) _ l h))

    closes : (b : Bool) (l : Lists) → many l < n → Under r many n (put_closing b q r l) (put_closing b q r' l)
    unfolding put_closing
    closes true l h = gives n l (omega arith)
    closes false l h = onward _ (closing_day_lem _ _ _) (λ day. puts day _ l h)

    closings : (l : Lists) → many l < n → Under r many n (closing q closed r l) (closing q closed r' l)
    unfolding closing
    closings l h = onward _ (adjust q.mask closed q.terminal _) (λ a. onward _ (adjust q.mask closed q.terminal _) (λ b. closes (eqb a b) l h))

    seeds : (day mark : ℕ) (l : Lists) → many l < n → Under r opened_by n (put_seed r day mark l) (put_seed r' day mark l)
    unfolding put_seed
    seeds day mark l h = after _ _ (omega arith) (puts {n = n} day mark l h) (λ m s. gives n (record { lists = m; seed = day }) s)

    firsts : (l : Lists) → many l < n → Under r opened_by n (put_first q closed r l) (put_first q closed r' l)
    unfolding put_first
    firsts l h = need_room l _ _ h (onward _ (tenor_free q closed _) (λ day. seeds q.first.day _ l h))

    comings : (b : Bool) (day : ℕ) (l : Lists) → many l < n → Under r opened_by n (put_coming b q r day l) (put_coming b q r' day l)
    unfolding put_coming
    comings true day l h = gives n _ (omega arith)
    comings false day l h = seeds day _ l h

    twentieths : (b : Bool) (l : Lists) → many l < n → Under r opened_by n (put_twentieth b q r l) (put_twentieth b q r' l)
    unfolding put_twentieth
    twentieths true l h = onward _ (coming _ _) (λ day. comings (eqb day q.effective.day) day l h)
    twentieths false l h = gives n _ (omega arith)

    seconds : (first : ℕ) (l : Lists) → many l < n → Under r opened_by n (second first q closed r l) (second first q closed r' l)
    unfolding second
    seconds zero l h = twentieths (on_twentieths q.rule) l h
    seconds (suc k) l h = firsts l h

  earliers : (b : Bool) (day : ℕ) → Under r many 1 (put_earlier b r day) (put_earlier b r' day)
  unfolding put_earlier
  earliers true day = onward _ (months day true 3) (λ earlier. puts earlier 1 nothing (omega arith))
  earliers false day = gives 1 nothing (omega arith)

  module _ (q : Request) (closed : List ℕ) where
    opens : (b : Bool) → Under r many 2 (opening_by b q closed r) (opening_by b q closed r')
    unfolding opening_by credit_opening
    opens true = onward _ (previous _ _) (λ day. onward _ (adjust q.mask closed q.convention day) (λ a. after _ _ (omega arith) (earliers (ltb q.effective.day a) day) (λ l h. puts day 1 l (omega arith))))
    opens false = puts q.effective.day 1 nothing (omega arith)

    openeds : Under r opened_by 3 (opened q closed r) (opened q closed r')
    unfolding opened opening
    openeds = after _ _ (omega arith) (opens (is_credit q.rule)) (λ l h. seconds q closed q.first.day l (omega arith))

    loops : (back : Bool) (seed exit : ℕ) (l : Lists) → many l ≤ 3 → Under r walked 876220 (candidates q closed r back seed exit l) (candidates q closed r' back seed exit l)
    unfolding candidates last_try
    loops back seed exit l h = walks _ (λ front k. turn_free q.mask closed q.convention back _ _ exit front k) SPAN_LAST 1 l (omega arith)

    shuts : (l : Lists) → many l ≤ 876220 → Under r many 876222 (shut q closed r l) (shut q closed r' l)
    unfolding shut
    shuts l h = after _ _ (omega arith) (anchors {n = 876221} q closed q.penultimate.day l (omega arith)) (λ m i. closings q closed m (omega arith))

    ends : (l : Lists) → many l ≤ 876220 → Under r many 876222 (ended q closed r l) (ended q closed r' l)
    unfolding ended
    ends l h = after _ _ (omega arith) (anchors {n = 876221} q closed q.first.day l (omega arith)) (λ m i. news q.mask closed q.convention q.effective.day q.effective.day 0 m (omega arith))

    forwards : Under r any 876222 (forward q closed r) (forward q closed r')
    unfolding forward forward_from forward_end
    forwards =
        after _ _ (omega arith) openeds (λ o h.
        after _ _ (omega arith) (loops false o.seed _ o.lists h) (λ w i.
        after _ _ (omega arith) (shuts w.lists i) (λ m j. gives 876222 _ (omega arith))))

    begins : Under r many 2 (begun q r) (begun q r')
    unfolding begun
    begins = after _ _ (omega arith) (puts {n = 1} q.termination.day 1 nothing (omega arith)) (λ l h. penultimates q closed _ _ q.penultimate.day l (omega arith))

    backwards : Under r any 876222 (backward q closed r) (backward q closed r')
    unfolding backward backward_from backward_end
    backwards =
        after _ _ (omega arith) begins (λ l h.
        after _ _ (omega arith) (loops true _ _ l (omega arith)) (λ w i.
        after _ _ (omega arith) (ends w.lists i) (λ m j. gives 876222 _ (omega arith))))

    zeros : Under r any 876222 (zero_dates q r) (zero_dates q r')
    unfolding zero_dates
    zeros =
        after _ _ (omega arith) (after _ _ (omega arith) (puts {n = 1} q.termination.day 1 nothing (omega arith)) (λ l h. puts {n = 2} q.effective.day 1 l (omega arith)))
        (λ m j. gives 876222 _ (omega arith))

    pub generates : Under r any 876222 (generate q closed r) (generate q closed r')
    unfolding generate generate_by
    generates = by (is_zero (rule_in_force q)) (is_backward (rule_in_force q))
      where
        by : (z b : Bool) → Under r any 876222 (generate_by z b q closed r) (generate_by z b q closed r')
        by true b = zeros
        by false true = backwards
        by false false = forwards
