use Rattle.osdp_words.proofs.Common.{arith, sym, ◌∙◌, false≢true, common_steps}
use Rattle.std.proofs.lemmas.Slice.Eq.{bytes_eq-Decides}
use Rattle.osdp_words.proofs.HexWords.{extended, no_room_reads, none_reads, refused_reads, taken_reads, was_decoded, was_refused}
use Rattle.osdp_words.proofs.byte_lists.read_byte_list.Goals as goal

pub returns-then-eq : goal.returns-then-eq
returns-then-eq g c = none_reads g.row.CAP c.args.word.now c.clear.new.self ((bytes_eq-Decides _ _).0 (sym c.eq.ensures ∙ c.if-eq.true)) c.clear.ensures

pub returns-then-count-eq0 : goal.returns-then-count-eq0
returns-then-count-eq0 g c = no_room_reads g.row.CAP c.args.word.now (λ e. false≢true (sym c.if-eq.false ∙ c.eq.ensures ∙ (bytes_eq-Decides _ _).1 e)) c.then-count-eq0.either

pub returns-then-is_err : goal.returns-then-is_err
returns-then-is_err g c =
    refused_reads g.row.CAP c.args.word.now _ c.decode_to_slice.result c.decode_to_slice.new.out (λ e. false≢true (sym c.if-eq.false ∙ c.eq.ensures ∙ (bytes_eq-Decides _ _).1 e))
    (grind (arith, common_steps)) (grind (arith, common_steps)) (grind (arith, common_steps)) c.decode_to_slice.ensures.value (was_refused c.decode_to_slice.result (sym c.is_err.ensures.value ∙ c.if-is_err.true))

pub returns : goal.returns
returns g c =
    taken_reads g.row.CAP c.args.word.now _ c.decode_to_slice.result c.decode_to_slice.new.out _ (λ e. false≢true (sym c.if-eq.false ∙ c.eq.ensures ∙ (bytes_eq-Decides _ _).1 e))
    (grind (arith, common_steps)) (grind (arith, common_steps)) (grind (arith, common_steps)) c.decode_to_slice.ensures.value (was_decoded c.decode_to_slice.result (sym c.is_err.ensures.value ∙ c.if-is_err.false))
    (extended g.row.CAP c.decode_to_slice.new.out c.try_extend_from_slice.result c.clear.new.self c.try_extend_from_slice.new.self c.is_ok.result c.clear.ensures (grind (arith, common_steps)) c.is_ok.ensures.value
    c.try_extend_from_slice.ensures.variant c.try_extend_from_slice.ensures.ok)
