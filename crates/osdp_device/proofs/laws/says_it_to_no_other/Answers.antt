use Rattle.osdp_device.proofs.Common.{◌≡◌, Option, Some, None, refl, Held, Command, Repeat, ReaderState, pending_of, turned_by, program_after, program_answer, Said, bytes_of, items_of, ProgramAnswers, Question, NotAsked, Asked, Answered}
use Rattle.osdp_device.proofs.Sets.{repeats_stored, says_no_other}
use Rattle.osdp_device.proofs.laws.says_it_to_no_other.Goals as goal

once : (question : Question) (pending : Option Command) (r : ReaderState ProgramAnswers) (held : Held) (said : Said)
    → (turned_by question pending r held).said ≡ Some said → (turned_by question pending r held).reader.handler.question ≡ NotAsked
once NotAsked (Some command) r held said is = absurd cc
once NotAsked None r held said is = refl
once Asked pending r held said is = refl
once (Answered answer) pending r held said is = refl

repeats : (question : Question) (pending : Option Command) (r : ReaderState ProgramAnswers) (held : Held) (said : Said)
    → (turned_by question pending r held).said ≡ Some said → said.kind ≡ Repeat → said.bytes ≡ bytes_of r.stored
repeats NotAsked (Some command) r held said is repeated = absurd cc
repeats NotAsked None r held said is repeated = repeats_stored program_answer program_after (items_of held) r held said is repeated
repeats Asked pending r held said is repeated = repeats_stored program_answer program_after (items_of held) r held said is repeated
repeats (Answered answer) pending r held said is repeated = repeats_stored program_answer program_after (items_of held) r held said is repeated

pub returns-clause-other : goal.returns-clause-other
returns-clause-other c = λ r held question none.
    says_no_other program_answer program_after (items_of held) r (record r.handler { question = question }) held none

pub returns-clause-once : goal.returns-clause-once
returns-clause-once c = λ r held said is. once r.handler.question (pending_of r held) r held said is

pub returns-clause-repeats : goal.returns-clause-repeats
returns-clause-repeats c = λ r held said is repeated. repeats r.handler.question (pending_of r held) r held said is repeated
