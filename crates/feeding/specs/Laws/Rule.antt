-- Document 02, L1, the rule: any cutting of the bytes, empty parts too, ends in the same request or the same refusal as the whole, and
-- the buffer holds the bodies.
-- Assumes nothing.
use Rattle.std.specs.Prelude.{ℕ, ◌≤◌, ◌<◌, ◌≡◌, take, drop, Option, None, Some, Result, Err}
use Rattle.refusal.specs.declared.Refusal.{Refusal}
use Rattle.refusal.specs.declared.Refusal.TheVariants.{Buffer}
use Rattle.refusal.specs.Refusals.{number_of}
use Rattle.refusal.specs.Answer.{refused, answered}
use Rattle.refusal.specs.Laws.Answers.{same_answered}
use Rattle.request.specs.declared.Decoded.{Decoded}
use Rattle.std.proofs.Math.Path.{refl}
use Rattle.std.proofs.Common.{sym, ap, ◌∙◌, arith, le-ltb, lt-ltb, eq-eqb, ne_eqb}
use mathlib.Core.List.{List, [], ◌++◌}
use Rattle.std.proofs.Math.ListN.{length, length-append, length-drop, length-take}
use Rattle.steps.specs.Build as build
use Rattle.request.specs.Format.{decoded}
use Rattle.request.specs.Laws.Picks.{taken, left}
use Rattle.request.specs.Decode.{counted, closed_dates_after}
use Rattle.feeding.specs.declared.State.{State}
use Rattle.feeding.specs.Bodies.{bodies}
use Rattle.feeding.specs.Feed.{fresh, eaten, laid, is_whole, found, heard, Feeds, done, Finishes}
use Rattle.feeding.specs.Parts.{Turn, Turns, start, turn, whole}
use Rattle.feeding.specs.Laws.Cut.{eaten_cut, laid_cut}
use Rattle.feeding.specs.Laws.Eat.{finished_eaten}
use Rattle.feeding.specs.Laws.Bodies.{laid_bodies, bodies_short}
use Rattle.feeding.specs.Laws.Finish.{found_decoded}

-- ---- the reader behind the bytes w, and the buffer, which was b: nothing of the cuts is in them
pub record Behind (w b : List ℕ) (s : State) (b' : List ℕ) : Type 0 where
  pub reader : s ≡ eaten fresh w
  pub buffer : b' ≡ build.over (bodies w) b

-- the same behind a finish
pub record Finished (w b : List ℕ) (s : State) (b' : List ℕ) : Type 0 where
  pub reader : s ≡ done (eaten fresh w)
  pub buffer : b' ≡ build.over (bodies w) b

-- the answer, and what then stands in the list for closed dates, are document 01's of w
pub record Decides (w : List ℕ) (r : Option (Result Decoded Refusal)) (closed closed' : List ℕ) : Type 0 where
  pub answer : heard r ≡ Some (counted (decoded w (length closed)))
  pub dates : closed' ≡ closed_dates_after (decoded w (length closed)) closed

-- an answer is known by what it says
nothing_heard : (r : Option (Result Decoded Refusal)) → heard r ≡ None → r ≡ None
nothing_heard None h = refl
nothing_heard (Some x) h = let z : ◌≡◌ {A = ℕ} 0 1 = cc in let bad : ⊥ = omega arith in absurd bad

refusal_heard : (r : Option (Result Decoded Refusal)) (k : Refusal) → heard r ≡ Some (refused (number_of k)) → r ≡ Some (Err k)
refusal_heard None k h = let z : ◌≡◌ {A = ℕ} 0 1 = cc in let bad : ⊥ = omega arith in absurd bad
refusal_heard (Some x) k h = ap Some (same_answered x (Err k) (let q : answered x ≡ refused (number_of k) = cc in q))

module _ (w b : List ℕ) (long : 20000 ≤ length b) where
  over_long : length (build.over (bodies w) b) ≡ length b
  unfolding build.over bodies
  over_long =
      let few : length (bodies w) ≤ length (take 20000 w) = bodies_short _ (take 20000 w) in
      omega (arith, length-append (bodies w) (drop (length (bodies w)) b), length-drop (length (bodies w)) b, few, length-take 20000 w)

  -- ---- a feed says "go on", and brings the reader behind the bytes and the part
  module _ {s : State} {b₁ : List ℕ} (g : Behind w b s b₁) {p closed : List ℕ} {r : Option (Result Decoded Refusal)} {s' : State} {b₂ closed' : List ℕ} (t : Feeds s p b₁ closed r s' b₂ closed') where
    big : 20000 ≤ length b₁
    big = omega (arith, ap length g.buffer, over_long)

    new : s.finished ≡ 0
    new = ap (λ (x : State). x.finished) g.reader ∙ finished_eaten fresh w

    pub goes_on : r ≡ None
    goes_on = nothing_heard r (t.answer ∙ left _ _ (le-ltb _ _ big) ∙ taken _ _ (eq-eqb _ _ new))

    pub keeps_dates : closed' ≡ closed
    keeps_dates = t.dates ∙ left _ _ (le-ltb _ _ big) ∙ taken _ _ (eq-eqb _ _ new)

    pub behind_feed : Behind (w ++ p) b s' b₂
    behind_feed =
        record {
          reader = t.state ∙ left _ _ (le-ltb _ _ big) ∙ taken _ _ (eq-eqb _ _ new) ∙ ap (λ (x : State). eaten x p) g.reader ∙ sym (eaten_cut fresh w p);
          buffer = t.bytes ∙ left _ _ (le-ltb _ _ big) ∙ taken _ _ (eq-eqb _ _ new)
              ∙ ap (λ (x : State). laid x p b₁) g.reader ∙ ap (laid (eaten fresh w) p) (g.buffer ∙ sym (laid_bodies w b long))
              ∙ sym (laid_cut fresh w p b) ∙ laid_bodies (w ++ p) b long;
        }

  -- ---- the finish answers as `decode` does for the whole, and leaves the buffer
  module _ {s : State} {b₁ : List ℕ} (g : Behind w b s b₁) {closed : List ℕ} {r : Result Decoded Refusal} {s' : State} {closed' : List ℕ} (t : Finishes s b₁ closed r s' closed') where
    big_enough : 20000 ≤ length b₁
    big_enough = omega (arith, ap length g.buffer, over_long)

    finds : found s b₁ (length closed) ≡ decoded w (length closed)
    finds =
        ap (λ (x : State). found x b₁ (length closed)) g.reader
        ∙ ap (λ (x : List ℕ). found (eaten fresh w) x (length closed)) (g.buffer ∙ sym (laid_bodies w b long))
        ∙ found_decoded w b (length closed) long

    pub finish_decides : Decides w (Some r) closed closed'
    finish_decides =
        record {
          answer = ap Some (t.answer ∙ left _ _ (le-ltb _ _ big_enough) ∙ ap counted finds);
          dates = t.dates ∙ left _ _ (le-ltb _ _ big_enough) ∙ ap (λ x. closed_dates_after x closed) finds;
        }

    pub finish_finished : Finished w b s' b₁
    finish_finished = record { reader = t.state ∙ left _ _ (le-ltb _ _ big_enough) ∙ ap done g.reader; buffer = g.buffer }

  -- ---- after it each call repeats the answer, and changes neither the reader nor the buffer
  module _ {s : State} {b₁ : List ℕ} (g : Finished w b s b₁) where
    large : 20000 ≤ length b₁
    large = omega (arith, ap length g.buffer, over_long)

    over_now : s.finished ≡ 0 → ⊥
    over_now e = omega (arith, e, ap (λ (x : State). x.finished) g.reader)

    found_done : (x : State) (l : List ℕ) (room : ℕ) → found (done x) l room ≡ found x l room
    unfolding found is_whole
    found_done x l room = refl

    again_finds : (room : ℕ) → found s b₁ room ≡ decoded w room
    again_finds room =
        ap (λ (x : State). found x b₁ room) g.reader ∙ found_done (eaten fresh w) b₁ room
        ∙ ap (λ (x : List ℕ). found (eaten fresh w) x room) (g.buffer ∙ sym (laid_bodies w b long)) ∙ found_decoded w b room long

    module _ {p closed : List ℕ} {r : Option (Result Decoded Refusal)} {s' : State} {b₂ closed' : List ℕ} (t : Feeds s p b₁ closed r s' b₂ closed') where
      pub repeats : Decides w r closed closed'
      repeats =
          record {
            answer = t.answer ∙ left _ _ (le-ltb _ _ large) ∙ left _ _ (ne_eqb _ _ over_now) ∙ ap (λ x. Some (counted x)) (again_finds (length closed));
            dates = t.dates ∙ left _ _ (le-ltb _ _ large) ∙ left _ _ (ne_eqb _ _ over_now) ∙ ap (λ x. closed_dates_after x closed) (again_finds (length closed));
          }

      pub repeats_reader : s' ≡ s
      repeats_reader = t.state ∙ left _ _ (le-ltb _ _ large) ∙ left _ _ (ne_eqb _ _ over_now)

      pub repeats_buffer : b₂ ≡ b₁
      repeats_buffer = t.bytes ∙ left _ _ (le-ltb _ _ large) ∙ left _ _ (ne_eqb _ _ over_now)

    module _ {closed : List ℕ} {r : Result Decoded Refusal} {s' : State} {closed' : List ℕ} (t : Finishes s b₁ closed r s' closed') where
      pub finishes_again : Decides w (Some r) closed closed'
      finishes_again =
          record {
            answer = ap Some (t.answer ∙ left _ _ (le-ltb _ _ large) ∙ ap counted (again_finds (length closed)));
            dates = t.dates ∙ left _ _ (le-ltb _ _ large) ∙ ap (λ x. closed_dates_after x closed) (again_finds (length closed));
          }

      pub finishes_reader : s' ≡ s
      finishes_reader = t.state ∙ left _ _ (le-ltb _ _ large) ∙ ap done g.reader ∙ sym g.reader

-- ---- a buffer that is too short: 18, and nothing changes, in every state
module _ (s : State) (p b closed : List ℕ) (short : length b < 20000) where
  pub short_feed : {r : Option (Result Decoded Refusal)} {s' : State} {b' closed' : List ℕ} → Feeds s p b closed r s' b' closed' → (r ≡ Some (Err Buffer)) × ((s' ≡ s) × ((b' ≡ b) × (closed' ≡ closed)))
  short_feed {r} t = (refusal_heard r Buffer (t.answer ∙ taken _ _ (lt-ltb _ _ short)), (t.state ∙ taken _ _ (lt-ltb _ _ short), (t.bytes ∙ taken _ _ (lt-ltb _ _ short), t.dates ∙ taken _ _ (lt-ltb _ _ short))))

  pub short_finish : {r : Result Decoded Refusal} {s' : State} {closed' : List ℕ} → Finishes s b closed r s' closed' → (r ≡ Err Buffer) × ((s' ≡ s) × (closed' ≡ closed))
  short_finish {r} t = (same_answered r (Err Buffer) (t.answer ∙ taken _ _ (lt-ltb _ _ short)), (t.state ∙ taken _ _ (lt-ltb _ _ short), t.dates ∙ taken _ _ (lt-ltb _ _ short)))

-- ---- the theorem: for every list of parts, from a reset, behind each feed and at the finish
module _ (b : List ℕ) (long : 20000 ≤ length b) where
  pub behind_turns : {ts : List Turn} {s : State} {b₁ : List ℕ} → Turns b ts s b₁ → Behind (whole ts) b s b₁
  unfolding whole eaten laid
  behind_turns start = record { reader = refl; buffer = laid_bodies [] b long }
  behind_turns (turn {ts = ts} t before fed) = behind_feed (whole ts) b long (behind_turns before) fed

  -- each feed said "go on", and left the list for closed dates
  pub all_go_on : {ts : List Turn} {s : State} {b₁ : List ℕ} (t : Turn) {s' : State} {b₂ : List ℕ} → Turns b ts s b₁ → Feeds s t.part b₁ t.closed t.answer s' b₂ t.closed_after → (t.answer ≡ None) × (t.closed_after ≡ t.closed)
  all_go_on {ts} t before fed = (goes_on (whole ts) b long (behind_turns before) fed, keeps_dates (whole ts) b long (behind_turns before) fed)

  -- the finish decides as document 01 does for the whole, and the buffer holds its bodies, every other place as before
  pub any_cutting : {ts : List Turn} {s : State} {b₁ : List ℕ} → Turns b ts s b₁ → {closed : List ℕ} {r : Result Decoded Refusal} {s' : State} {closed' : List ℕ} → Finishes s b₁ closed r s' closed'
      → Decides (whole ts) (Some r) closed closed' × Finished (whole ts) b s' b₁
  any_cutting {ts} before t = (finish_decides (whole ts) b long (behind_turns before) t, finish_finished (whole ts) b long (behind_turns before) t)

  -- two cuttings of the same bytes, the same buffer before: the same reader and the same buffer, so the same answer
  pub two_cuttings : {ts us : List Turn} {s s' : State} {b₁ b₂ : List ℕ} → Turns b ts s b₁ → Turns b us s' b₂ → whole ts ≡ whole us → (s ≡ s') × (b₁ ≡ b₂)
  two_cuttings x y e = (
    (behind_turns x).reader ∙ ap (eaten fresh) e ∙ sym (behind_turns y).reader,
    (behind_turns x).buffer ∙ ap (λ (w : List ℕ). build.over (bodies w) b) e ∙ sym (behind_turns y).buffer,
  )
