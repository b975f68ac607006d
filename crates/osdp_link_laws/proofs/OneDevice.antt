-- All that is on the line names one device: commands go one way, and replies the other.
use Rattle.osdp_link_laws.proofs.Common.{ℕ, List, subst, sym, ap, inl, inr, Packet, Command, Reply, ControllerConfig, Exchange, Answer, Link, run, IsCommandTo, IsReplyFrom, NameOneDevice, NamesOne, ReadEachOther}
use Rattle.osdp_link_laws.proofs.InARow.{Stands, stands}
use Rattle.osdp_link_laws.proofs.Lines.{each_all, each_map, runs_each}
use Rattle.osdp_link_laws.proofs.Stages.{After, Behind, Each, Fresh, IsFrame, IsOldFrame, Level, Past, Rest, Restarted, Says, SaysOld, Stage, Start, ToControllerAt, ToReaderAt, number_after}

module _ (fixed : ControllerConfig) where
  command_to : (x : Exchange) (n : ℕ) (p : Packet) → IsFrame fixed x n p → IsCommandTo fixed.address p
  command_to x n p is = (ap (λ q. q.reply) is, ap (λ q. q.address) is)

  old_command_to : (past : Past) (p : Packet) → IsOldFrame fixed past p → IsCommandTo fixed.address p
  old_command_to Start p is = absurd is
  old_command_to (After n x r) p is = command_to x n p is

  commands_at : (at : Stage) (ps : List Packet) → ToReaderAt fixed at ps → Each (IsCommandTo fixed.address) ps
  commands_at Fresh ps is = subst (Each (IsCommandTo fixed.address)) (sym is) tt
  commands_at (Behind past x) ps is =
      runs_each (IsOldFrame fixed past) (IsFrame fixed x (number_after past)) (IsCommandTo fixed.address)
      (old_command_to past) (command_to x (number_after past)) ps is
  commands_at (Level past x r) ps is =
      each_map (IsFrame fixed x (number_after past)) (IsCommandTo fixed.address) (command_to x (number_after past)) ps is
  commands_at (Rest n x r) ps is = each_map (IsFrame fixed x n) (IsCommandTo fixed.address) (command_to x n) ps is

module _ (fixed : ControllerConfig) (since : Restarted) where
  reply_from : (n : ℕ) (r : Reply) (p : Packet) → Says fixed since n r p → IsReplyFrom fixed.address p
  reply_from n r p (inl is) = (ap (λ q. q.reply) is, ap (λ q. q.address) is)
  reply_from n r p (inr (inl is)) = (ap (λ q. q.reply) is, ap (λ q. q.address) is)
  reply_from n r p (inr (inr (inl (may, (m, is))))) = (ap (λ q. q.reply) is, ap (λ q. q.address) is)
  reply_from n r p (inr (inr (inr (first, (pd, fits, is))))) = (ap (λ q. q.reply) is, ap (λ q. q.address) is)

  old_reply_from : (past : Past) (p : Packet) → SaysOld fixed since past p → IsReplyFrom fixed.address p
  old_reply_from Start p is = (ap (λ q. q.reply) is, ap (λ q. q.address) is)
  old_reply_from (After n x r) p is = reply_from n r p is

  replies_at : (at : Stage) (ps : List Packet) → ToControllerAt fixed since at ps → Each (IsReplyFrom fixed.address) ps
  replies_at Fresh ps is = subst (Each (IsReplyFrom fixed.address)) (sym is) tt
  replies_at (Behind past x) ps is = each_map (SaysOld fixed since past) (IsReplyFrom fixed.address) (old_reply_from past) ps is
  replies_at (Level past x r) ps is =
      runs_each (SaysOld fixed since past) (Says fixed since (number_after past) r) (IsReplyFrom fixed.address)
      (old_reply_from past) (reply_from (number_after past) r) ps is
  replies_at (Rest n x r) ps is = each_map (Says fixed since n r) (IsReplyFrom fixed.address) (reply_from n r) ps is

module _ {H : Type 0} (answer_of : H → Command → Answer) (after : H → Command → H) where
  pub standing_names : (l : Link H) → Stands answer_of after l → (device : ℕ) × NamesOne device l.to_reader l.to_controller
  standing_names l s =
      let held = s.goes.holds in (
        s.fixed.address,
        record {
          below = s.device;
          commands = each_all (IsCommandTo s.fixed.address) l.to_reader (commands_at s.fixed held.1 l.to_reader held.2.to_reader);
          replies = each_all (IsReplyFrom s.fixed.address) l.to_controller (replies_at s.fixed held.0 held.1 l.to_controller held.2.to_controller);
        },
      )

module _ {H : Type 0} (answer_of : H → Command → Answer) (after : H → Command → H) where
  pub name_one : ReadEachOther answer_of after → NameOneDevice answer_of after
  name_one peers l moves b fits =
      standing_names answer_of after (run answer_of after moves l) (stands answer_of after peers l moves b fits)
