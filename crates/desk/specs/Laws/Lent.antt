-- What a combined list that was written is good for: it passes the calendar's own check, and days are open by it exactly if they are open over
-- both lists. So builds, month ends and advances over desk and house are those over the list that was written.
-- Assumes nothing.
use Rattle.std.specs.Prelude.{ℕ, ◌≡◌, true, List, leb, length, take, drop}
use Rattle.std.proofs.Math.Path.{refl, sym, ap}
use Rattle.std.proofs.Common.{◌∙◌}
use Rattle.std.proofs.Math.Seq.{take_at}
use Rattle.refusal.specs.Answer.{Answer, given, CALENDAR, ROOM, FULL}
use Rattle.refusal.specs.Laws.Answers.{both, need_given, one_given}
use Rattle.calendar.specs.Open.{is_open_day, closed_ok, calendar_ok}
use Rattle.desk.specs.Desk.{opens_over, calendars_ok, combined, combine_of, lent_after, Combines}
use Rattle.desk.specs.Laws.Over.{open_alike}
use Rattle.desk.specs.Laws.Combined.{combined_ok, sound_alike}

-- one list in place of two, under every weekly mask
pub record Serves (desk house list : List ℕ) : Type 0 where
  pub keeps : closed_ok list ≡ true
  pub sound : (mask : ℕ) → calendar_ok mask list ≡ calendars_ok mask desk house
  pub opens : (mask day : ℕ) → is_open_day mask list day ≡ opens_over mask desk house day

module _ (desk house : List ℕ) (room n : ℕ) (g : combine_of desk house room ≡ given n) where
  sound_both : (closed_ok desk ≡ true) × (closed_ok house ≡ true)
  unfolding combine_of
  sound_both = both (closed_ok desk) (closed_ok house) (need_given CALENDAR _ _ n g).0

  few : leb (length (combined desk house)) 4096 ≡ true
  unfolding combine_of
  few = (need_given FULL _ _ n (need_given CALENDAR _ _ n g).1).0

  pub its_count : n ≡ length (combined desk house)
  unfolding combine_of
  its_count =
      sym (one_given _ (length (combined desk house)) n refl (need_given ROOM _ _ n (need_given FULL _ _ n (need_given CALENDAR _ _ n g).1).1).1)

  pub given_serves : Serves desk house (combined desk house)
  given_serves =
      let k = combined_ok desk house sound_both.0 sound_both.1 ∙ few in
      record {
        keeps = k;
        sound = λ mask. sym (sound_alike mask desk house sound_both.0 sound_both.1 k);
        opens = λ mask day. sym (open_alike mask desk house day);
      }

-- as many places of the lent list as were answered are the combined list
module _ (desk house lent lent' : List ℕ) (n : ℕ) (c : Combines desk house (given n) lent lent') where
  pub written_is : take n lent' ≡ combined desk house
  unfolding lent_after
  written_is =
      let g : combine_of desk house (length lent) ≡ given n = sym c.says in
      ap (take n) (c.writes ∙ ap (λ (r : Answer ℕ). lent_after r (combined desk house) lent) g)
      ∙ take_at (combined desk house) (drop n lent) n (sym (its_count desk house (length lent) n g))

  pub written_serves : Serves desk house (take n lent')
  written_serves = rw written_is (given_serves desk house (length lent) n (sym c.says))
