use Rattle.std.proofs.Common.{to_z-of_z, w32, w64}
use Rattle.capi_c.proofs.calendars.heronspan_calendar_advance.Goals as goal

-- The call has the tenor and gives its answer through their bits.
pub returns : goal.returns
returns c =
    let tenor = to_z-of_z {w = w32} {z = c.args.tenor} c.ranges.tenor in
    let result = to_z-of_z {w = w64} {z = c.heronspan_calendar_advance.result} (record { sfits = c.heronspan_calendar_advance.type_inv }) in
    rw (result, ← tenor) c.heronspan_calendar_advance.ensures
