-- Laws of a feed and of the finish: one for each way through the code.
-- Assumes nothing.
use Prim.Native.Nat.{ℕ, ◌/◌, ◌≤◌, ◌<◌}
use mathlib.Core.Path.{◌≡◌, refl, sym, ap, ◌∙◌}
use mathlib.Core.List.{List}
use borrow.Author.Rules.{rules}
use borrow.Author.Tests.{lt-ltb, le-ltb, eq-eqb, ne_eqb, le-leb}
use lib.ListN.{length}
use Rattle.refusal.specs.Laws.Answers.{fails, holds}
use Rattle.request.specs.Laws.Picks.{taken, left}
use Rattle.request.specs.Stored.{stored_in}
use Rattle.request.specs.Decode.{Decodes}
use Rattle.request.specs.Laws.Promise.{refuses, same_promise}
use Rattle.request.specs.declared.Decoded.{Decoded}
use Rattle.std.specs.Prelude.{Result, None, Some, Err}
use Rattle.refusal.specs.declared.Refusal.{Refusal}
use Rattle.refusal.specs.declared.Refusal.TheVariants as refusal-is
use Rattle.feeding.specs.declared.State.{State}
use Rattle.feeding.specs.Feed.{is_whole, found, Feeds, Finishes, done}
use Rattle.feeding.specs.Inner.Runs.{Taken}

-- ---- what the stored bodies ask for
module _ (s : State) (buffer l : List ℕ) where
  pub answer_broken : s.sound ≡ 0 → Decodes (found s buffer (length l)) (Err refusal-is.Request) l l
  unfolding found is_whole
  answer_broken e = refuses refusal-is.Request (fails 17 _ _ (taken _ _ (eq-eqb _ _ e)))

  module _ (h : s.sound ≡ 0 → ⊥) where
    pub answer_open : (s.phase ≡ 5 → ⊥) → Decodes (found s buffer (length l)) (Err refusal-is.Request) l l
    unfolding found is_whole
    answer_open e = refuses refusal-is.Request (fails 17 _ _ (left _ _ (ne_eqb _ _ h) ∙ ne_eqb _ _ e))

    pub answer_whole : {r : Result Decoded Refusal} {l' : List ℕ} → s.phase ≡ 5 → 20000 ≤ length buffer → Decodes (stored_in buffer s.places (s.size / 4) (length l)) r l l' → Decodes (found s buffer (length l)) r l l'
    unfolding found is_whole stored_in
    answer_whole e long d =
        same_promise (sym (holds 18 _ _ _ (le-leb 20000 (length buffer) long) refl) ∙ holds 17 _ _ _ (left _ _ (ne_eqb _ _ h) ∙ eq-eqb _ _ e) refl) d

pub ruleset answering = (answer_broken, answer_open, answer_whole, rules)

-- ---- a feed
module _ {s : State} {part buffer closed : List ℕ} where
  pub feed_short : length buffer < 20000 → Feeds s part buffer closed (Some (Err refusal-is.Buffer)) s buffer closed
  feed_short h = record { state = sym (taken _ _ (lt-ltb _ _ h)); answer = sym (taken _ _ (lt-ltb _ _ h)); bytes = sym (taken _ _ (lt-ltb _ _ h)); dates = sym (taken _ _ (lt-ltb _ _ h)) }

  module _ (g : 20000 ≤ length buffer) where
    pub feed_takes : {s' : State} {buffer' : List ℕ} → s.finished ≡ 0 → Taken s part buffer s' buffer' → Feeds s part buffer closed None s' buffer' closed
    feed_takes e t =
        record {
          state = t.state ∙ sym (left _ _ (le-ltb _ _ g) ∙ taken _ _ (eq-eqb _ _ e));
          answer = sym (left _ _ (le-ltb _ _ g) ∙ taken _ _ (eq-eqb _ _ e));
          bytes = t.bytes ∙ sym (left _ _ (le-ltb _ _ g) ∙ taken _ _ (eq-eqb _ _ e));
          dates = sym (left _ _ (le-ltb _ _ g) ∙ taken _ _ (eq-eqb _ _ e));
        }

    pub feed_repeats : {r : Result Decoded Refusal} {closed' : List ℕ} → (s.finished ≡ 0 → ⊥) → Decodes (found s buffer (length closed)) r closed closed' → Feeds s part buffer closed (Some r) s buffer closed'
    feed_repeats e d =
        record {
          state = sym (left _ _ (le-ltb _ _ g) ∙ left _ _ (ne_eqb _ _ e));
          answer = ap Some d.answer ∙ sym (left _ _ (le-ltb _ _ g) ∙ left _ _ (ne_eqb _ _ e));
          bytes = sym (left _ _ (le-ltb _ _ g) ∙ left _ _ (ne_eqb _ _ e));
          dates = d.dates ∙ sym (left _ _ (le-ltb _ _ g) ∙ left _ _ (ne_eqb _ _ e));
        }

pub ruleset feeds = (feed_short, feed_takes, feed_repeats, rules)

-- ---- the finish
module _ {s : State} {buffer closed : List ℕ} where
  pub finish_short : length buffer < 20000 → Finishes s buffer closed (Err refusal-is.Buffer) s closed
  finish_short h = record { state = sym (taken _ _ (lt-ltb _ _ h)); answer = sym (taken _ _ (lt-ltb _ _ h)); dates = sym (taken _ _ (lt-ltb _ _ h)) }

  pub finish_said : {r : Result Decoded Refusal} {closed' : List ℕ} → 20000 ≤ length buffer → Decodes (found s buffer (length closed)) r closed closed' → Finishes s buffer closed r (done s) closed'
  finish_said g d =
      record { state = sym (left _ _ (le-ltb _ _ g)); answer = d.answer ∙ sym (left _ _ (le-ltb _ _ g)); dates = d.dates ∙ sym (left _ _ (le-ltb _ _ g)) }

pub ruleset finishes = (finish_short, finish_said, rules)
