use Rattle.std.proofs.Common.{◌≡◌, true, false, []}
use Rattle.request.specs.Format.{is_date}
use Rattle.request.proofs.AskWays.{ask_first, ask_second, ask_room, ask_given}
use Rattle.request.proofs.asking.asked_from.Goals as goal
use Rattle.request.proofs.asking.asked_from.Goals.{then-not-is_date-via-then-not-is_date, then-not-is_date-via-else-not-is_date+then-not-is_date-2}

pub returns-then-not-is_date : goal.returns-then-not-is_date
returns-then-not-is_date g c =
    elim c.then-not-is_date.branch [
      | then-not-is_date-via-then-not-is_date w ↦
          let first : is_date (g.B.Bodies.body_of c.args.fields.now [] 1) ≡ false = cc in
          ask_first (g.B.Bodies.body_of c.args.fields.now) _ first
      | then-not-is_date-via-else-not-is_date+then-not-is_date-2 w ↦
          let first : is_date (g.B.Bodies.body_of c.args.fields.now [] 1) ≡ true = cc in
          let second : is_date (g.B.Bodies.body_of c.args.fields.now [] 2) ≡ false = cc in
          ask_second (g.B.Bodies.body_of c.args.fields.now) _ first second
    ]

pub returns-then-list-closed : goal.returns-then-list-closed
returns-then-list-closed g c =
    let first : is_date (g.B.Bodies.body_of c.args.fields.now [] 1) ≡ true = cc in
    let second : is_date (g.B.Bodies.body_of c.args.fields.now [] 2) ≡ true = cc in
    ask_room (g.B.Bodies.body_of c.args.fields.now) _ first second c.body-dates.ensures c.if-list-closed.true

pub returns : goal.returns
returns g c =
    let first : is_date (g.B.Bodies.body_of c.args.fields.now [] 1) ≡ true = cc in
    let second : is_date (g.B.Bodies.body_of c.args.fields.now [] 2) ≡ true = cc in
    ask_given (g.B.Bodies.body_of c.args.fields.now) _ first second c.body-dates.ensures c.if-list-closed.false c.write_closed.ensures c.request_from-request.ensures
