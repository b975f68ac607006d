-- What is known of CAP after a list, and what the list says of it.
use Rattle.osdp_rules_laws.proofs.Common.{◌≡◌, ◌≢◌, ◌⊎◌, inl, inr, ℕ, true, not, ◌&&◌, List, [], ◌∷◌, Option, Some, None, Result, Ok, refl, sym, subst, ap, ◌∙◌, cond-true, cond-false, false≢true, Packet, Command, MsgFault, Reply, asked, is_to, told, last_number, turn_of, Known, Gone, Opened, Took, Unknown, Turn, Again, New, NobodyKnows, Out}
use Rattle.std.proofs.lemmas.Bool.{cases_Bool}
use Rattle.std.specs.Prelude.{◌++◌}
use Rattle.osdp_msg.specs.Values.{PdCapValue}
use Rattle.osdp_msg.specs.declared.command.Command.TheVariants as command
use Rattle.osdp_msg.specs.declared.reply.Reply.TheVariants as reply
use Rattle.osdp_rules.specs.Claims.{claims_by, claims_of, claims_told, is_anew, is_new, no_claims}
use Rattle.osdp_rules.specs.Runs.{Sent, claims_along, claims_next, heard, known_along, known_next}
use Rattle.osdp_rules.specs.declared.claims.Claims.{Claims}
use Rattle.osdp_rules_laws.specs.Caps.{IsCap, LastCap, TellsCap}
use Rattle.osdp_rules_laws.specs.Lists.{IsNew, NoComset, Nowhere}
use Rattle.osdp_rules_laws.specs.Terms.{IsPlainTo, data_of}
use Rattle.osdp_rules_laws.proofs.CapBytes.{caps_told, triples}
use Rattle.osdp_rules_laws.proofs.Deciding.{Says, and_says, not_says, says_no, to_says}
use Rattle.osdp_rules_laws.proofs.Taking.{here_known, known, known_here}
use Rattle.osdp_rules_laws.proofs.Turns.{new_turn, turn_new}

-- ---- a list and one more

pub known_more : (address : ℕ) (k : Known) (past : List Sent) (x : Sent)
    → known_along address k (past ++ x ∷ []) ≡ known_next address x.packet (heard x) (known_along address k past)
known_more address k [] x = refl
known_more address k (y ∷ past) x = known_more address (known_next address y.packet (heard y) k) past x

pub claims_more : (address : ℕ) (k : Known) (c : Claims) (past : List Sent) (x : Sent)
    → claims_along address k c (past ++ x ∷ []) ≡ claims_next address (known_along address k past) x.packet (heard x) (claims_along address k c past)
claims_more address k c [] x = refl
claims_more address k c (y ∷ past) x =
    claims_more address (known_next address y.packet (heard y) k) (claims_next address k y.packet (heard y) c) past x

-- ---- a packet with a new number

new_by : (t : Turn) → Says (is_new t) (t ≡ New)
new_by New = record { means = λ e. refl; shows = λ e. refl }
new_by Again = record { means = λ e. absurd (false≢true e); shows = λ e. absurd (cc e) }
new_by Out = record { means = λ e. absurd (false≢true e); shows = λ e. absurd (cc e) }
new_by NobodyKnows = record { means = λ e. absurd (false≢true e); shows = λ e. absurd (cc e) }

anew_here : (address : ℕ) (k : Known) (p : Packet) → k ≢ Gone → is_anew address k p ≡ (is_to address p && not p.block && is_new (turn_of (last_number k) p.sequence))
anew_here address Gone p here = absurd (here refl)
anew_here address Unknown p here = refl
anew_here address Opened p here = refl
anew_here address (Took q b) p here = refl

anew_not_gone : (address : ℕ) (k : Known) (p : Packet) → is_anew address k p ≡ true → k ≢ Gone
anew_not_gone address Gone p e g = false≢true e
anew_not_gone address Unknown p e g = cc g
anew_not_gone address Opened p e g = cc g
anew_not_gone address (Took q b) p e g = cc g

module _ (address : ℕ) where
  pub record IsAnew (past : List Sent) (p : Packet) : Type 0 where
    pub here : NoComset past
    pub to : IsPlainTo address p
    pub new : IsNew address past p

  pub anew_says : (past : List Sent) (p : Packet) → Says (is_anew address (known address past) p) (IsAnew past p)
  anew_says past p =
      let k = known address past in
      let turn = turn_of (last_number k) p.sequence in
      let all = and_says (is_to address p && not p.block) (is_new turn) _ _
      (and_says (is_to address p) (not p.block) _ _ (to_says address p) (not_says p.block)) (new_by turn) in
      record {
        means = λ e.
            let here = anew_not_gone address k p e in
            let calm = known_here address past here in
            let h = all.means (sym (anew_here address k p here) ∙ e) in
            record { here = calm; to = h.0; new = turn_new address past p calm h.1 };
        shows = λ is.
            anew_here address k p (here_known address past is.here)
            ∙ all.shows (is.to, new_turn address past p is.here is.new);
      }

  -- ---- a CAP and its answer

  -- what a command and an answer say of CAP
  abbrev pub CapSaid : Result Command MsgFault → Option Packet → Claims → Claims → Type 0
  CapSaid r h c new =
      ((kept : ℕ) × (a : Packet) × (caps : PdCapValue) × (r ≡ Ok (command.Cap kept)) × (h ≡ Some a) × (told a ≡ Ok (reply.PdCap caps))
      × (new ≡ claims_of caps.capabilities.items))
      ⊎ ((new ≡ c) × ((kept : ℕ) (a : Packet) (caps : PdCapValue) → r ≡ Ok (command.Cap kept) → h ≡ Some a → told a ≡ Ok (reply.PdCap caps) → ⊥))

  told_by : (kept : ℕ) (a : Packet) (t : Result Reply MsgFault) (c : Claims) → told a ≡ t
      → CapSaid (Ok (command.Cap kept)) (Some a) c (claims_told t c)
  told_by kept a (Ok (reply.PdCap caps)) c is = inl (kept, a, caps, refl, refl, is, refl)
  told_by kept a t c is = inr (refl, λ k b caps r h tells. other a b caps h is tells)
    where
      other : (a b : Packet) (caps : PdCapValue) → Some a ≡ Some b → told a ≡ t → told b ≡ Ok (reply.PdCap caps) → ⊥
      other a b caps same is tells = cc (ap told (one a b same), is, tells)
        where
          one : (a b : Packet) → Some a ≡ Some b → a ≡ b
          one a b e = cc

  said_by : (r : Result Command MsgFault) (h : Option Packet) (c : Claims) → CapSaid r h c (claims_by r h c)
  said_by (Ok (command.Cap kept)) (Some a) c = told_by kept a (told a) c refl
  said_by (Ok (command.Cap kept)) None c = inr (refl, λ k a caps r h tells. cc h)
  said_by r h c = inr (refl, λ k a caps is g tells. cc is)

  -- what one exchange says of CAP
  abbrev pub CapCame : List Sent → Sent → Claims → Claims → Type 0
  CapCame past x c new = ((bytes : List ℕ) × TellsCap address bytes past x × (new ≡ claims_of (triples bytes))) ⊎ ((new ≡ c) × (IsCap address past x → ⊥))

  same_some : (o : Option Packet) (p q : Packet) → o ≡ Some p → o ≡ Some q → p ≡ q
  same_some o p q e f = cc

  came_by : (past : List Sent) (x : Sent) (o : Option Packet) (c : Claims) → x.packet ≡ o
      → CapCame past x c (claims_next address (known address past) o (heard x) c)
  came_by past x None c packet = inr (refl, λ is. none (x.packet) is.1.p packet is.1.packet)
    where
      none : (o : Option Packet) (p : Packet) → o ≡ None → o ≡ Some p → ⊥
      none o p e f = cc (sym e ∙ f)
  came_by past x (Some p) c packet =
      let k = known address past in
      let anew = is_anew address k p in
      elim (cases_Bool anew) [
        | inr old ↦ inr (
          cond-false anew (claims_by (asked p) (heard x) c) c old,
          λ is. says_no anew _ (anew_says past p) old (subst (λ q. IsAnew past q) (same_some x.packet is.1.p p is.1.packet packet)
              (record { here = is.1.here; to = is.1.to; new = is.1.new })),
        )
        | inl new ↦
            let at = (anew_says past p).means new in
            let is_by = cond-true anew (claims_by (asked p) (heard x) c) c new in
            elim (said_by (asked p) (heard x) c) [
              | inl said ↦ inl (
                data_of said.1,
                record {
                  p = p;
                  a = said.1;
                  kept = said.0;
                  caps = said.2;
                  here = at.here;
                  packet = packet;
                  to = at.to;
                  new = at.new;
                  asks = said.3;
                  heard = said.4;
                  tells = said.5;
                  read = refl;
                },
                is_by ∙ said.6 ∙ ap claims_of (caps_told said.1 said.2 said.5),
              )
              | inr nothing ↦ inr (
                is_by ∙ nothing.0,
                λ is. nothing.1 is.1.kept is.1.a is.1.caps
                    (subst (λ q. asked q ≡ Ok (command.Cap is.1.kept)) (same_some x.packet is.1.p p is.1.packet packet) is.1.asks) is.1.heard is.1.tells,
              )
            ]
      ]

  came : (past : List Sent) (x : Sent) (c : Claims) → CapCame past x c (claims_next address (known address past) x.packet (heard x) c)
  came past x c = came_by past x x.packet c refl

  -- ---- along a list

  abbrev pub CapWent : List Sent → List Sent → Claims → Claims → Type 0
  CapWent past xs c new =
      ((new ≡ c) × Nowhere (IsCap address) past xs) ⊎ ((bytes : List ℕ) × LastCap address bytes past xs × (new ≡ claims_of (triples bytes)))

  went_on : (past : List Sent) (x : Sent) (xs : List Sent) (c next new : Claims) → CapCame past x c next → CapWent (past ++ x ∷ []) xs next new
      → CapWent past (x ∷ xs) c new
  went_on past x xs c next new at (inr later) = inr (later.0, inr later.1, later.2)
  went_on past x xs c next new (inl cap) (inl none) = inr (cap.0, inl (cap.1, none.1), none.0 ∙ cap.2)
  went_on past x xs c next new (inr nothing) (inl none) = inl (none.0 ∙ nothing.0, (nothing.1, none.1))

  -- from a list's end on
  abbrev pub along : List Sent → Claims → List Sent → Claims
  along past c xs = claims_along address (known address past) c xs

  went : (past xs : List Sent) (c : Claims) → CapWent past xs c (along past c xs)
  went past [] c = inl (refl, tt)
  went past (x ∷ xs) c =
      let next = claims_next address (known address past) x.packet (heard x) c in
      let same : along (past ++ x ∷ []) next xs ≡ along past c (x ∷ xs) = ap (λ k. claims_along address k next xs) (known_more address Unknown past x) in
      subst (λ new. CapWent past (x ∷ xs) c new) same
      (went_on past x xs c next (along (past ++ x ∷ []) next xs) (came past x c) (went (past ++ x ∷ []) xs next))

  -- what the device says by CAP after a list
  abbrev pub said : List Sent → Claims
  said past = claims_along address Unknown no_claims past

  pub caps_said : (past : List Sent)
      → ((said past ≡ no_claims) × Nowhere (IsCap address) [] past) ⊎ ((bytes : List ℕ) × LastCap address bytes [] past × (said past ≡ claims_of (triples bytes)))
  caps_said past = went [] past no_claims

  -- ---- the last CAP is one

  cap_nowhere : (past xs : List Sent) (bytes : List ℕ) → LastCap address bytes past xs → Nowhere (IsCap address) past xs → ⊥
  cap_nowhere past [] bytes last none = last
  cap_nowhere past (x ∷ xs) bytes (inl here) none = none.0 (bytes, here.0)
  cap_nowhere past (x ∷ xs) bytes (inr later) none = cap_nowhere (past ++ x ∷ []) xs bytes later none.1

  one_cap : (past : List Sent) (x : Sent) (bytes others : List ℕ) → TellsCap address bytes past x → TellsCap address others past x → bytes ≡ others
  one_cap past x bytes others at also = at.read ∙ ap data_of (same_some (heard x) at.a also.a at.heard also.heard) ∙ sym also.read

  pub last_is : (past xs : List Sent) (bytes others : List ℕ) → LastCap address bytes past xs → LastCap address others past xs → bytes ≡ others
  last_is past [] bytes others at also = absurd at
  last_is past (x ∷ xs) bytes others (inl at) (inl also) = one_cap past x bytes others at.0 also.0
  last_is past (x ∷ xs) bytes others (inl at) (inr also) = absurd (cap_nowhere (past ++ x ∷ []) xs others also at.1)
  last_is past (x ∷ xs) bytes others (inr at) (inl also) = absurd (cap_nowhere (past ++ x ∷ []) xs bytes at also.1)
  last_is past (x ∷ xs) bytes others (inr at) (inr also) = last_is (past ++ x ∷ []) xs bytes others at also

  pub last_said : (past : List Sent) (bytes : List ℕ) → LastCap address bytes [] past → said past ≡ claims_of (triples bytes)
  last_said past bytes last = elim (caps_said past) [
    | inl none ↦ absurd (cap_nowhere [] past bytes last none.1)
    | inr cap ↦ cap.2 ∙ ap (λ b. claims_of (triples b)) (last_is [] past cap.0 bytes cap.1 last)
  ]
