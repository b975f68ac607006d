-- What asks for each rule that an end may break.
use Rattle.osdp_monitor.specs.declared.accusation.Accusation.{Accusation}
use Rattle.osdp_monitor.specs.declared.accusation.Accusation.TheVariants.{AnotherPacket, NotAnswered, SentOutOfTurn}
use Rattle.osdp_monitor.specs.declared.accusation.Accusation.TheVariants.{SecondReply, AnotherNumber, AnotherCheck, BusyToRepeat, RefusedZero}
use Rattle.osdp_monitor.specs.declared.accusation.Accusation.TheVariants.{AnotherReply, TakenOutOfTurn, UnreadReply, UnfitReply, EventAtZero}
use Rattle.osdp_monitor.specs.declared.accusation.Basis.{Basis}
use Rattle.osdp_monitor.specs.declared.accusation.Basis.TheVariants.{Standard, Profile}

-- the standard; or the profile alone, where other makers may do otherwise
abbrev pub basis : Accusation → Basis
basis AnotherPacket = Standard
basis NotAnswered = Standard
basis SentOutOfTurn = Standard
basis SecondReply = Standard
basis AnotherNumber = Standard
basis AnotherCheck = Standard
basis BusyToRepeat = Profile
basis RefusedZero = Profile
basis AnotherReply = Standard
basis TakenOutOfTurn = Standard
basis UnreadReply = Standard
basis UnfitReply = Profile
basis EventAtZero = Profile
