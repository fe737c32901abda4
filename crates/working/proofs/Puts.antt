-- Lists that grow in an array, from its far end or its near one, and a law for each way through `put`.
-- Assumes nothing.
use mathlib.Core.Path.{◌≡◌, refl, ap, sym, ◌∙◌}
use mathlib.Core.Bool.{Bool, true, false, false≢true, ◌&&◌}
use mathlib.Core.List.{List, [], ◌∷◌, ◌++◌, reverse, reverse-append, reverse-cons, reverse-reverse}
use Prim.Native.Nat.{ℕ, suc, ◌+◌, ◌-◌, ◌≤◌, ◌<◌}
use native.Mathlib.Numerals.{add-one}
use native.Mathlib.Omega.{arith}
use lib.ListN.{length, get_or, take, drop, set, length-set, length-take, drop_of_length-le}
use lib.Seq.{drop-cons, get_or-set_same, drop-set-lt, take-suc, take-suc-set, length-take-le, drop-append-le}
use lib.Dec.{eqb, ltb}
use borrow.Author.Tests.{lt-ltb, le-ltb, ltb-true, eq-eqb, eqb-true}
use borrow.Author.Rules.{rules}
use Rattle.refusal.specs.Answer.{Answer, given, ROOM}
use Rattle.refusal.specs.Laws.Answers.{fails, holds}
use Rattle.steps.specs.Generate.{put, has_room_in}
use Rattle.steps.specs.Finish.{each}
use Rattle.steps.specs.Laws.Parts.{moved_on, moved_last}
use Rattle.working.specs.Paying.{PaidSo, Paid}
use Rattle.std.specs.Prelude.{Ok, Err}
use Rattle.refusal.specs.declared.Refusal.TheVariants.{Room}
use Rattle.working.specs.Step.{gives, refuses}
use Rattle.working.specs.Part.{Work, working, Part, held, last_put, last_day, has_place, place_of, Filling}
use Rattle.working.specs.Held.{put_length, none_put}

-- ---- places
pub place_back : (back : Bool) (n r : ℕ) → back ≡ true → r ≡ 4095 - n → r ≡ place_of back n
unfolding place_of
place_back true n r e h = h
place_back false n r e h = absurd (false≢true e)

pub place_forth : (back : Bool) (n r : ℕ) → back ≡ false → r ≡ n → r ≡ place_of back n
unfolding place_of
place_forth true n r e h = absurd (false≢true (sym e))
place_forth false n r e h = h

-- ---- whether there is a place
module _ (n a b : ℕ) where
  pub places_yes : has_place n a b ≡ true → (n < 4096) × (a ≡ 4096) × (b ≡ 4096)
  unfolding has_place
  places_yes e = yes (ltb n 4096) (eqb a 4096) (eqb b 4096) refl refl refl e
    where
      yes : (x y z : Bool) → ltb n 4096 ≡ x → eqb a 4096 ≡ y → eqb b 4096 ≡ z → (x && (y && z)) ≡ true → (n < 4096) × (a ≡ 4096) × (b ≡ 4096)
      yes true true true p q r h = (ltb-true n 4096 p, eqb-true a 4096 q, eqb-true b 4096 r)
      yes true true false p q r h = absurd (false≢true h)
      yes true false z p q r h = absurd (false≢true h)
      yes false y z p q r h = absurd (false≢true h)

  pub places_no : has_place n a b ≡ false → n < 4096 → a ≡ 4096 → b ≡ 4096 → ⊥
  unfolding has_place
  places_no e p q r = false≢true (sym e ∙ rw (lt-ltb n 4096 p, eq-eqb a 4096 q, eq-eqb b 4096 r) refl)

-- ---- one element more
more_back : (l : List ℕ) (n d : ℕ) → length l ≡ 4096 → n < 4096 → drop (4096 - (n + 1)) (set l (4095 - n) d) ≡ d ∷ drop (4096 - n) l
more_back l n d s h =
    let e : 4096 - (n + 1) ≡ 4095 - n = omega arith in
    let f : suc (4095 - n) ≡ 4096 - n = omega arith in
    let i : 4095 - n < length (set l (4095 - n) d) = rw (length-set l (4095 - n) d) (omega arith) in
    rw e (drop-cons (set l (4095 - n) d) (4095 - n) 0 i ∙ rw (get_or-set_same l (4095 - n) d 0 (omega arith), drop-set-lt (suc (4095 - n)) l (4095 - n) d (omega arith), f))

front_none : (n : ℕ) (l : List ℕ) → drop n (take n l) ≡ []
front_none n l = drop_of_length-le (take n l) {i = n} (omega (arith, length-take n l))

more_forth : (l : List ℕ) (n d : ℕ) → length l ≡ 4096 → n < 4096 → reverse (take (n + 1) (set l n d)) ≡ d ∷ reverse (take n l)
more_forth l n d s h = rw (add-one n, take-suc-set l n d (omega arith)) (reverse-append (take n l) (d ∷ []))

pub one_more : (back : Bool) (l : List ℕ) (n d : ℕ) → length l ≡ 4096 → n < 4096 → last_put back (n + 1) (set l (place_of back n) d) ≡ d ∷ last_put back n l
unfolding last_put place_of
one_more true l n d s h = more_back l n d s h
one_more false l n d s h = more_forth l n d s h

-- ---- the paid dates beside those of the loop
paid_so_none : (A : ℕ → Answer ℕ) (back : Bool) (n : ℕ) (days paid : List ℕ) → PaidSo back A n n days paid
unfolding PaidSo each
paid_so_none A true n days paid = let z : n - n ≡ 0 = omega arith in rw z refl
paid_so_none A false n days paid = rw (front_none n days, front_none n paid) refl

pub paid_none : (A : ℕ → Answer ℕ) (back : Bool) (n : ℕ) (days paid : List ℕ) → length paid ≡ 4096 → Paid A back n n days paid
paid_none A back n days paid s = record { size = s; order = omega arith; so = paid_so_none A back n days paid }

module _ (A : ℕ → Answer ℕ) (day b : ℕ) (known : A day ≡ given b) where
  so_more : (back : Bool) (n m : ℕ) (days days' paid : List ℕ) → n ≤ m → m < 4096 → length days ≡ 4096 → length paid ≡ 4096 → last_put back (m + 1) days' ≡ day ∷ last_put back m days → PaidSo back A n m days paid → PaidSo back A n (m + 1) days' (set paid (place_of back m) b)
  unfolding PaidSo last_put place_of
  so_more true n m days days' paid o few s t put p =
      let z : m + 1 - n ≡ suc (m - n) = omega arith in
      rw (z, put, more_back paid m b t few) (moved_on A day b _ _ known p)
  so_more false n m days days' paid o few s t put p =
      let u : take (m + 1) days' ≡ take m days ++ (day ∷ []) =
      sym (reverse-reverse (take (m + 1) days')) ∙ ap reverse put ∙ reverse-cons day (reverse (take m days)) ∙ ap (λ (l : List ℕ). l ++ (day ∷ [])) (reverse-reverse (take m days)) in
      let v : take (m + 1) (set paid m b) ≡ take m paid ++ (b ∷ []) = rw (add-one m) (take-suc-set paid m b (omega arith)) in
      let x = length-take-le m days (omega arith) in
      let y = length-take-le m paid (omega arith) in
      rw (u, v, drop-append-le n (take m days) (day ∷ []) (omega arith), drop-append-le n (take m paid) (b ∷ []) (omega arith))
      (moved_last A _ _ day b p known)

pub paid_more : (A : ℕ → Answer ℕ) (back : Bool) {start n m : ℕ} (day b : ℕ) {days days' paid paid' : List ℕ} → length days ≡ 4096 → n < 4096 → Paid A back start n days paid → m ≡ n + 1 → A day ≡ given b → last_put back m days' ≡ day ∷ last_put back n days → paid' ≡ set paid (place_of back n) b → Paid A back start m days' paid'
paid_more A back {start} {n} {m} day b {days} {days'} {paid} {paid'} s few p more known put is =
    rw (is, more)
    (record {
      size = length-set paid (place_of back n) b ∙ p.size;
      order = let o = p.order in omega arith;
      so = so_more A day b known back start n days days' paid p.order few s p.size (rw more at put) p.so;
    })

-- ---- the newest
head_is : (l xs : List ℕ) (x : ℕ) → l ≡ x ∷ xs → l ≡ get_or l 0 0 ∷ xs
head_is l xs x e = rw e refl

-- it stands before those that were put earlier
pub newest_first : (back : Bool) (l : List ℕ) (n : ℕ) → length l ≡ 4096 → 0 < n → n ≤ 4096 → last_put back n l ≡ last_day back n l ∷ last_put back (n - 1) l
unfolding last_put last_day
newest_first true l n s p h =
    let f : suc (4096 - n) ≡ 4096 - (n - 1) = omega arith in
    head_is (drop (4096 - n) l) (drop (4096 - (n - 1)) l) (get_or l (4096 - n) 0) (drop-cons l (4096 - n) 0 (omega arith) ∙ rw f refl)
newest_first false l n s p h =
    let e : n ≡ suc (n - 1) = omega arith in
    head_is (reverse (take n l)) (reverse (take (n - 1) l)) (get_or l (n - 1) 0)
    (ap (λ (k : ℕ). reverse (take k l)) e ∙ rw (take-suc l (n - 1) 0 (omega arith)) (reverse-append (take (n - 1) l) (get_or l (n - 1) 0 ∷ [])))

newest_back : (l : List ℕ) (n : ℕ) → length l ≡ 4096 → 0 < n → n ≤ 4096 → get_or l (4095 - (n - 1)) 0 ≡ get_or (drop (4096 - n) l) 0 0
newest_back l n s p h =
    let e : 4095 - (n - 1) ≡ 4096 - n = omega arith in
    rw (e, drop-cons l (4096 - n) 0 (omega arith))

newest_forth : (l : List ℕ) (n : ℕ) → length l ≡ 4096 → 0 < n → n ≤ 4096 → get_or l (n - 1) 0 ≡ get_or (reverse (take n l)) 0 0
newest_forth l n s p h =
    let e : n ≡ suc (n - 1) = omega arith in
    let f : reverse (take n l) ≡ get_or l (n - 1) 0 ∷ reverse (take (n - 1) l) =
    ap (λ (k : ℕ). reverse (take k l)) e ∙ rw (take-suc l (n - 1) 0 (omega arith)) (reverse-append (take (n - 1) l) (get_or l (n - 1) 0 ∷ [])) in
    rw f

pub newest_at : (back : Bool) (l : List ℕ) (n at : ℕ) → length l ≡ 4096 → 0 < n → n < 4097 → at ≡ place_of back (n - 1) → get_or l at 0 ≡ last_day back n l
unfolding place_of last_day last_put
newest_at true l n at s p h e = rw e (newest_back l n s p (omega arith))
newest_at false l n at s p h e = rw e (newest_forth l n s p (omega arith))

pub newest_none : (back : Bool) (l : List ℕ) (n : ℕ) → length l ≡ 4096 → n ≡ 0 → 0 ≡ last_day back n l
unfolding last_day
newest_none back l n s e = rw (e, none_put back l s) refl

-- ---- put
module _ {room n : ℕ} {w : Work} (back : Bool) (p : Part room n w) (day mark : ℕ) where
  pub put_full : room ≤ n → Filling back room (put room day mark (held back n w)) (Err Room) w
  unfolding put has_room_in held
  put_full h =
      refuses 14 (fails ROOM _ _ (le-ltb (length (last_put back n w.days)) room (let l = put_length back w.days n p.work_size (omega (arith, p)) in omega arith)))

  pub put_ready : (at : ℕ) → n < room → at ≡ place_of back n → Filling back room (put room day mark (held back n w)) (Ok (n + 1)) (working (set w.days at day) (set w.marks at mark))
  unfolding put has_room_in held
  put_ready at h e =
      let a = one_more back w.days n day p.work_size (omega (arith, p)) in
      let b = one_more back w.marks n mark p.marks_size (omega (arith, p)) in
      rw e
      (gives (n + 1)
      (holds ROOM _ _ _ (lt-ltb (length (last_put back n w.days)) room (let l = put_length back w.days n p.work_size (omega (arith, p)) in omega arith))
      (rw (a, b)))
      (record {
        part =
            record {
              work_size = length-set w.days (place_of back n) day ∙ p.work_size;
              marks_size = length-set w.marks (place_of back n) mark ∙ p.marks_size;
              fits = omega (arith, p);
              most = p.most;
            };
        some = omega arith;
      }))

pub ruleset puts = (put_full, put_ready, rules)
