-- How many bytes a file has: 70, and 132 for each run.
-- Assumes nothing.
use Rattle.std.specs.Prelude.{ℕ, ◌+◌, ◌*◌, ◌≡◌, refl, List, [], ◌∷◌, ◌++◌, length}
use Rattle.std.proofs.Common.{ap, ◌∙◌, arith, length-append}
use Rattle.holidays.specs.Words.{Bytes, ascii}
use Rattle.publishing.specs.File.{Run, date_text, before, behind, event_lines, all_events, written, runs_of, file_of}

pub written_more : (ls ms : List Bytes) → written (ls ++ ms) ≡ written ls ++ written ms
unfolding written
written_more [] ms = refl
written_more (l ∷ ls) ms = rw (written_more ls ms) (go l)
  where
    go : (s : Bytes) → s ++ (13 ∷ 10 ∷ (written ls ++ written ms)) ≡ (s ++ (13 ∷ 10 ∷ written ls)) ++ written ms
    go [] = refl
    go (b ∷ s) = ap (λ (t : Bytes). b ∷ t) (go s)

pub event_size : (r : Run) → length (written (event_lines r)) ≡ 132
unfolding written event_lines date_text ascii
event_size r = refl

pub events_size : (rs : List Run) → length (written (all_events rs)) ≡ 132 * length rs
unfolding all_events written
events_size [] = refl
events_size (r ∷ rs) =
    ap length (written_more (event_lines r) (all_events rs)) ∙ length-append (written (event_lines r)) (written (all_events rs)) ∙ sum (length (written (event_lines r))) (event_size r) (length (written (all_events rs))) (events_size rs)
  where
    sum : (a : ℕ) → a ≡ 132 → (b : ℕ) → b ≡ 132 * length rs → a + b ≡ 132 * length (r ∷ rs)
    sum a p b q = omega arith

pub before_size : length (written before) ≡ 55
unfolding written before ascii
before_size = refl

pub behind_size : length (written behind) ≡ 15
unfolding written behind ascii
behind_size = refl

pub file_parts : (list : List ℕ) → file_of list ≡ written before ++ (written (all_events (runs_of list)) ++ written behind)
unfolding file_of
file_parts list =
    written_more before (all_events (runs_of list) ++ behind) ∙ ap (λ (s : Bytes). written before ++ s) (written_more (all_events (runs_of list)) behind)

pub file_size : (list : List ℕ) → length (file_of list) ≡ 132 * length (runs_of list) + 70
file_size list =
    ap length (file_parts list)
    ∙ length-append (written before) _
    ∙ sum _ before_size _ (length-append (written (all_events (runs_of list))) (written behind) ∙ tail _ (events_size (runs_of list)) _ behind_size)
  where
    tail : (a : ℕ) → a ≡ 132 * length (runs_of list) → (b : ℕ) → b ≡ 15 → a + b ≡ 132 * length (runs_of list) + 15
    tail a p b q = omega arith

    sum : (a : ℕ) → a ≡ 55 → (b : ℕ) → b ≡ 132 * length (runs_of list) + 15 → a + b ≡ 132 * length (runs_of list) + 70
    sum a p b q = omega arith
