-- How far a date moves over two lists (change request L8): the former date and refusals on every input, and the laws of its move.
-- Assumes nothing.
use Rattle.std.specs.Prelude.{ℕ, ◌≡◌, List, ℤ}
use Rattle.refusal.specs.Answer.{given, BOOK, CALENDAR}
use Rattle.refusal.specs.Laws.Answers.{need_given}
use Rattle.date.specs.Date.{in_book}
use Rattle.calendar.specs.declared.Convention.{Convention}
use Rattle.calendar.specs.AnyCalendar.{adjusted}
use Rattle.calendar.specs.Moves.{date_of}
use Rattle.calendar.specs.Laws.HowFar.{Move, move_of}
use Rattle.calendar.specs.Laws.Moved.{given_date}
use Rattle.desk.specs.Desk.{opens_over, calendars_ok, adjust_over_of, adjust_over_move_of}

module _ (mask : ℕ) (desk house : List ℕ) (convention : Convention) (day : ℕ) where
  pub over_date : date_of (adjust_over_move_of mask desk house convention day) ≡ adjust_over_of mask desk house convention day
  unfolding adjust_over_move_of
  over_date = given_date day (adjust_over_of mask desk house convention day)

  over_given : (new : ℕ) → adjust_over_of mask desk house convention day ≡ given new → adjusted (opens_over mask desk house) convention day ≡ given new
  unfolding adjust_over_of
  over_given new h =
      (need_given CALENDAR (calendars_ok mask desk house) _ new (need_given BOOK (in_book day) _ new h).1).1

  pub over_move : (new : ℕ) (days : ℤ) → adjust_over_move_of mask desk house convention day ≡ given (new, days) → Move (opens_over mask desk house) convention day new days
  unfolding adjust_over_move_of
  over_move new days h =
      move_of (opens_over mask desk house) convention day new days (adjust_over_of mask desk house convention day) (over_given new) h
