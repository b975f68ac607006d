use Rattle.osdp_msg.proofs.Common.{◌≡◌, ◌*◌, ◌++◌, ◌∷◌, [], ℕ, length, sym, ap, ◌∙◌, Some, List, arith, flat_map_more, length-append, records_at}
use Rattle.osdp_msg.proofs.RecordLists.{put_full, put_length, put_more, put_room, put_whole, records_again}
use Rattle.osdp_msg.proofs.RecordTexts.{parsed_all, parsed_full, parsed_more, parsed_none, parsed_stuck}
use Rattle.osdp_msg.proofs.parsing.read_records.Goals as goal

pub words-init : goal.words-init
words-init g c = ([], c.clear.ensures, parsed_none g.R.Record.word g.R.Record.fits c.args.fields, omega arith)

pub returns-then-len-SIZE-clause-parsed : goal.returns-then-len-SIZE-clause-parsed
returns-then-len-SIZE-clause-parsed g c =
    let inv = c.words.invariant in
    let size = g.R.Record.SIZE in
    let is = put_length size g.R.Record.spelled g.met.R.Record.length_spelled c.requires.kind.some g.row.MOST inv.0 c.words.place.items inv.1 in
    let full : length c.words.place.items ≡ size * g.row.MOST = sym c.len.ensures.value ∙ c.if-len-SIZE.true ∙ ap (λ (k : ℕ). k * g.row.MOST) c.SIZE.ensures in
    let next = rw c.in-Some.is at c.word.ensures in
    parsed_full g.R.Record.word g.R.Record.fits c.args.fields g.row.MOST _ _ inv.0 _ next (put_full size g.row.MOST (length inv.0) (length c.words.place.items) c.requires.kind.some is full) inv.2

pub returns-then-len-SIZE-clause-whole : goal.returns-then-len-SIZE-clause-whole
returns-then-len-SIZE-clause-whole g c =
    let inv = c.words.invariant in
    put_whole g.R.Record.SIZE g.R.Record.spelled g.met.R.Record.length_spelled c.requires.kind.some g.row.MOST inv.0 c.words.place.items inv.1 inv.3

pub returns-in_default-parse-clause-parsed : goal.returns-in_default-parse-clause-parsed
returns-in_default-parse-clause-parsed g c =
    let inv = c.words.invariant in
    let next = rw c.in-Some.is at c.word.ensures in
    let not = rw c.in_default-parse.is at c.parse.ensures in
    parsed_stuck g.R.Record.word g.R.Record.fits c.args.fields g.row.MOST _ _ inv.0 _ next not inv.2

pub returns-in_default-parse-clause-whole : goal.returns-in_default-parse-clause-whole
returns-in_default-parse-clause-whole g c =
    let inv = c.words.invariant in
    put_whole g.R.Record.SIZE g.R.Record.spelled g.met.R.Record.length_spelled c.requires.kind.some g.row.MOST inv.0 c.words.place.items inv.1 inv.3

pub append_to-requires : goal.append_to-requires
append_to-requires g c =
    let inv = c.words.invariant in
    let size = g.R.Record.SIZE in
    let len = length c.words.place.items in
    let is = put_length size g.R.Record.spelled g.met.R.Record.length_spelled c.requires.kind.some g.row.MOST inv.0 c.words.place.items inv.1 in
    let free = λ (full : len ≡ size * g.row.MOST). c.if-len-SIZE.false (c.len.ensures.value ∙ full ∙ sym (ap (λ (k : ℕ). k * g.row.MOST) c.SIZE.ensures)) in
    put_room size g.row.MOST (length inv.0) len (put_more size g.row.MOST (length inv.0) len inv.3 is free) is c.requires.room

pub words-preserved : goal.words-preserved
words-preserved g c =
    let inv = c.words.invariant in
    let size = g.R.Record.SIZE in
    let x = c.in-Some-parse.record in
    let len = length c.words.place.items in
    let is = put_length size g.R.Record.spelled g.met.R.Record.length_spelled c.requires.kind.some g.row.MOST inv.0 c.words.place.items inv.1 in
    let free = λ (full : len ≡ size * g.row.MOST). c.if-len-SIZE.false (c.len.ensures.value ∙ full ∙ sym (ap (λ (k : ℕ). k * g.row.MOST) c.SIZE.ensures)) in
    let more = put_more size g.row.MOST (length inv.0) len inv.3 is free in
    let next = rw c.in-Some.is at c.word.ensures in
    let read = rw c.in-Some-parse.is at c.parse.ensures in (
      inv.0 ++ x ∷ [],
      c.append_to.ensures.appended ∙ ap (λ (bs : List ℕ). bs ++ g.R.Record.spelled x) inv.1 ∙ flat_map_more g.R.Record.spelled [] inv.0 x,
      parsed_more g.R.Record.word g.R.Record.fits c.args.fields _ _ inv.0 _ x next read inv.2,
      omega (arith, more, length-append inv.0 (x ∷ [])),
    )

pub returns-clause-parsed : goal.returns-clause-parsed
returns-clause-parsed g c =
    let inv = c.words.invariant in
    let r = g.R.Record in
    let end = rw c.in_default.is at c.word.ensures in
    let all = parsed_all r.word r.fits c.args.fields g.row.MOST _ inv.0 end inv.3 inv.2 in
    let again = ap (λ (bs : List ℕ). Some (records_at r.read_at r.SIZE bs)) inv.1 ∙ ap Some (records_again r.SIZE r.spelled r.fits r.read_at c.requires.kind inv.0 inv.2.fits) in
    rw again all

pub returns-clause-whole : goal.returns-clause-whole
returns-clause-whole g c =
    let inv = c.words.invariant in
    put_whole g.R.Record.SIZE g.R.Record.spelled g.met.R.Record.length_spelled c.requires.kind.some g.row.MOST inv.0 c.words.place.items inv.1 inv.3
