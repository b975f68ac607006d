-- What waits is written out after each read: what was told stays.
use Rattle.osdp_tool_show.proofs.Common.{ℕ, ◌+◌, Bool, true, false, List, [], ◌++◌, take, drop, take-append-drop, Option, sym, append-nil, Capture, shown_so_far, TookPart, StopsInPiece, IsBeginning}
use Rattle.osdp_tool_show.proofs.Beginnings.{stops_by}

-- the piece was taken, and the output failed when what waits was to be written out
pub stops_written : (piece : List ℕ) (good : Bool) (old mid : Capture) (before middle now : Option (List ℕ))
    → TookPart piece good old mid before middle → IsBeginning now middle → StopsInPiece piece old before now
stops_written piece true old mid before middle now t begun = λ detail form start read f.
    let g = t.follows detail form start read f in (
      piece,
      [],
      sym (append-nil piece),
      stops_by start middle now (shown_so_far detail form (read ++ piece)) (shown_so_far detail form (read ++ piece)) [] g.stands.lines begun
          (sym (append-nil (shown_so_far detail form (read ++ piece)))),
    )
stops_written piece false old mid before middle now t begun = λ detail form start read f.
    let front = take t.0 piece in
    let g = t.1.follows detail form start read f in (
      front,
      drop t.0 piece,
      sym (take-append-drop t.0 piece),
      stops_by start middle now (shown_so_far detail form (read ++ front)) (shown_so_far detail form (read ++ front)) [] g.stands.lines begun
          (sym (append-nil (shown_so_far detail form (read ++ front)))),
    )
