-- What is given stands for one reply at most, and one text is that of one reply.
use Rattle.osdp_msg_laws.proofs.Common.{List, refl, ap, Ack, Nak, PdId, PdCap, LocalState, Inputs, Outputs, Readers, Raw, Formatted, Keypad, Com, Busy, MakerReply, Capability, CapabilityFits, capability_word, ReplyFits, reply_fields, reply_name, differ}
use Rattle.osdp_msg_laws.proofs.OneMeaning.{capability_one, communication_one, formatted_one, keypad_one, local_state_one, maker_one, nak_one, pd_id_one, raw_one, records_one, states_one}
use Rattle.osdp_msg.specs.ReplyText.{reply_text, reply_words}
use Rattle.osdp_msg_laws.proofs.PlainReplies.{plain_replies}
use Rattle.osdp_msg_laws.proofs.TableLaws.{HasTexts, RowsHaveOneMeaning, texts_of}

rows : RowsHaveOneMeaning ReplyFits reply_name reply_fields
rows given Ack Ack e h k s t = refl
rows given (Nak a) (Nak b) e h k s t = ap Nak (nak_one given a b h k s t)
rows given (PdId a) (PdId b) e h k s t = ap PdId (pd_id_one given a b h k s t)
rows given (PdCap a) (PdCap b) e h k s t = ap (λ (xs : List Capability). PdCap (record { capabilities = record { items = xs } })) (records_one capability_word CapabilityFits capability_one given a.capabilities.items b.capabilities.items h.1 k.1 s t)
rows given (LocalState a) (LocalState b) e h k s t = ap LocalState (local_state_one given a b h k s t)
rows given (Inputs a) (Inputs b) e h k s t = ap Inputs (states_one given a b h.bytes k.bytes s t)
rows given (Outputs a) (Outputs b) e h k s t = ap Outputs (states_one given a b h.bytes k.bytes s t)
rows given (Readers a) (Readers b) e h k s t = ap Readers (states_one given a b h.bytes k.bytes s t)
rows given (Raw a) (Raw b) e h k s t = ap Raw (raw_one given a b h k s t)
rows given (Formatted a) (Formatted b) e h k s t = ap Formatted (formatted_one given a b h k s t)
rows given (Keypad a) (Keypad b) e h k s t = ap Keypad (keypad_one given a b h k s t)
rows given (Com a) (Com b) e h k s t = ap Com (communication_one given a b h k s t)
rows given Busy Busy e h k s t = refl
rows given (MakerReply a) (MakerReply b) e h k s t = ap MakerReply (maker_one given a b h k s t)
rows given m n e h k s t = absurd (differ (reply_name m) (reply_name n) refl e)

pub reply_texts : HasTexts ReplyFits reply_words reply_text
unfolding reply_text
reply_texts = texts_of ReplyFits reply_name reply_fields rows plain_replies
