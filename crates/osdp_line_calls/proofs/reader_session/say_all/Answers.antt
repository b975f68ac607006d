use Rattle.osdp_line_calls.proofs.Common.{◌≡◌, ◌++◌, suc, length, string_bytes, Some, None, sym, ap, subst, ◌∙◌, arith, append-nil, refl, after_saying, Received, Held, Said, status_after, status_answer, after_items, after_all, items_of, said_to_all, is_any, all_lines, said_lines}
use Rattle.osdp_device.specs.Lent.{said_by}
use Rattle.osdp_line_calls.proofs.ReaderTurns.{ages_on, line_on, turned, written}
use Rattle.osdp_line_calls.proofs.reader_session.say_all.Goals as goal

pub responses-smaller : goal.responses-smaller
responses-smaller c =
    let t = turned c.responses.device.reader c.responses.device.line.held (Some (record { kind = c.in-Some.kind; command = c.next.new.self.command; bytes = c.next.new.out.items })) c.next.new.self.reader c.next.new.self.line.held
    c.in-Some.ensures.said c.next.ensures.reader (ap (λ (l : Received). l.held) c.next.ensures.line) in
    let fewer : length (said_to_all status_answer status_after (items_of c.responses.device.line.held) c.responses.device.reader)
    ≡ suc (length (said_to_all status_answer status_after (items_of c.next.new.self.line.held) c.next.new.self.reader)) = ap length t.said in
    omega (arith, fewer)

pub responses-preserved : goal.responses-preserved
responses-preserved c =
    let t = turned c.responses.device.reader c.responses.device.line.held (Some (record { kind = c.in-Some.kind; command = c.next.new.self.command; bytes = c.next.new.out.items })) c.next.new.self.reader c.next.new.self.line.held
    c.in-Some.ensures.said c.next.ensures.reader (ap (λ (l : Received). l.held) c.next.ensures.line) in
    let same : said_by c.heard.result c.as_slice.result.now ≡ record { kind = c.in-Some.kind; command = c.next.new.self.command; bytes = c.next.new.out.items } =
    λ i. record { kind = c.heard.ensures.kind i; command = c.heard.ensures.command i; bytes = c.as_slice.ensures.value i } in
    record {
      text = written (string_bytes c.responses.text) (string_bytes c.push_said.new.text) _ (record { kind = c.in-Some.kind; command = c.next.new.self.command; bytes = c.next.new.out.items }) _ _
          (subst (λ (s : Said). string_bytes c.push_said.new.text ≡ string_bytes c.responses.text ++ said_lines s) same c.in_ok-push_said.ensures) t.said c.responses.invariant.text;
      reader = sym t.reader ∙ c.responses.invariant.reader;
      left = sym t.left ∙ c.responses.invariant.left;
      line = line_on c.args.device.now.line c.responses.device.line c.next.new.self.line _ c.responses.invariant.line c.next.ensures.line;
      ages = ages_on _ _ (record { kind = c.in-Some.kind; command = c.next.new.self.command; bytes = c.next.new.out.items }) c.args.device.now.line.greatest c.responses.device.line.greatest c.responses.device.ages c.next.new.self.ages _
          t.said c.in-Some.ensures.ages (ap (λ (l : Received). l.greatest) c.responses.invariant.line) c.responses.invariant.ages;
    }

pub returns-clause-text : goal.returns-clause-text
returns-clause-text c =
    let t = turned c.responses.device.reader c.responses.device.line.held None c.next.new.self.reader c.next.new.self.line.held
    c.in_default.ensures.said c.next.ensures.reader (ap (λ (l : Received). l.held) c.next.ensures.line) in
    let nothing = t.said ∙ ap (λ parts. said_to_all status_answer status_after parts c.next.new.self.reader) (t.all refl) in
    sym (append-nil (string_bytes c.responses.text)) ∙ ap (λ l. string_bytes c.responses.text ++ all_lines l) (sym nothing) ∙ c.responses.invariant.text

pub returns-clause-reader : goal.returns-clause-reader
returns-clause-reader c =
    let t = turned c.responses.device.reader c.responses.device.line.held None c.next.new.self.reader c.next.new.self.line.held
    c.in_default.ensures.said c.next.ensures.reader (ap (λ (l : Received). l.held) c.next.ensures.line) in
    sym (t.reader ∙ ap (λ parts. after_items status_answer status_after parts c.next.new.self.reader) (t.all refl)) ∙ c.responses.invariant.reader

pub returns-clause-line : goal.returns-clause-line
returns-clause-line c =
    let t = turned c.responses.device.reader c.responses.device.line.held None c.next.new.self.reader c.next.new.self.line.held
    c.in_default.ensures.said c.next.ensures.reader (ap (λ (l : Received). l.held) c.next.ensures.line) in
    let left = sym (t.left ∙ ap (λ parts. after_all c.next.new.self.line.held parts) (t.all refl)) ∙ c.responses.invariant.left in
    line_on c.args.device.now.line c.responses.device.line c.next.new.self.line _ c.responses.invariant.line c.next.ensures.line
    ∙ ap (λ (h : Held). record c.args.device.now.line { held = h }) left

pub returns-clause-ages : goal.returns-clause-ages
returns-clause-ages c =
    let t = turned c.responses.device.reader c.responses.device.line.held None c.next.new.self.reader c.next.new.self.line.held
    c.in_default.ensures.said c.next.ensures.reader (ap (λ (l : Received). l.held) c.next.ensures.line) in
    let nothing = t.said ∙ ap (λ parts. said_to_all status_answer status_after parts c.next.new.self.reader) (t.all refl) in
    c.in_default.ensures.ages
    ∙ sym (ap (λ l. after_saying (is_any l) c.args.device.now.line.greatest c.responses.device.ages) nothing) ∙ c.responses.invariant.ages
