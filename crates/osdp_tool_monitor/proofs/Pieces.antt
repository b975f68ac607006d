-- Pieces of an input, one after the other.
use Rattle.osdp_tool_monitor.proofs.Common.{◌≡◌, ℕ, ◌+◌, ◌*◌, ◌^◌, ◌≤◌, Bool, true, false, cond, is_some, List, [], ◌∷◌, ◌++◌, length, take, Option, None, Ok, Err, refl, sym, subst, ap, ◌∙◌, arith, append_assoc, append-nil, length-append, Appends-kept, Appends-nil, Appends-trans, Consumes-nil, Consumes-trans, take-append-add, map-append, flat_map-append, Appends, Consumes, Keeps, ToolFault, TooLong, WriteFailed, NoMemory, Hears, LineEvent, after_events, events_report, hearing_of, load, nothing_yet, MonitorMode, Session, CameIn, IsToldInPart, IsTooLong, OnlyLastIsBad, Told, input_report, Broke, HasBroken, HasRead, HasTold, HasToldPieces, ReadsAll, TellsPiece, IsNew, IsReady, TakesPiece, cut_of, weight}
use Rattle.osdp_tool_monitor.proofs.OpenRuns.{after_events-append, events_report-append}
use Rattle.osdp_tool_monitor.specs.Events.{Cut, Following, More, Piece, after_piece, after_pieces, are_good, bad_in, bytes_of, moments_of, nothing_cut, piece_events, pieces_events}
use Rattle.osdp_tool_monitor.specs.InTurn.{after_all, report_of_all}

-- ---- one piece more

pub after_pieces-more : (mode : MonitorMode) (c : Cut) (pieces : List Piece) (piece : Piece)
    → after_pieces mode c (pieces ++ piece ∷ []) ≡ after_piece mode (after_pieces mode c pieces) piece
unfolding after_pieces
after_pieces-more mode c [] piece = refl
after_pieces-more mode c (p ∷ pieces) piece = after_pieces-more mode (after_piece mode c p) pieces piece

pub pieces_events-more : (mode : MonitorMode) (c : Cut) (pieces : List Piece) (piece : Piece)
    → pieces_events mode c (pieces ++ piece ∷ []) ≡ pieces_events mode c pieces ++ piece_events mode (after_pieces mode c pieces) piece
unfolding after_pieces pieces_events
pieces_events-more mode c [] piece = append-nil (piece_events mode c piece)
pieces_events-more mode c (p ∷ pieces) piece =
    let next = after_piece mode c p in
    ap (λ l. piece_events mode c p ++ l) (pieces_events-more mode next pieces piece)
    ∙ sym (append_assoc (piece_events mode c p) (pieces_events mode next pieces) (piece_events mode (after_pieces mode next pieces) piece))

good_after : (bad few many : Bool) → (few ≡ true → many ≡ true) → cond bad false few ≡ true → cond bad false many ≡ true
good_after true few many more h = cc
good_after false few many more h = more h

pub are_good-more : (mode : MonitorMode) (c : Cut) (pieces : List Piece) (piece : Piece) → are_good mode c pieces ≡ true
    → bad_in mode.hex (after_pieces mode c pieces) piece ≡ None → are_good mode c (pieces ++ piece ∷ []) ≡ true
unfolding after_pieces are_good
are_good-more mode c [] piece good none = ap (λ o. cond (is_some o) false true) none
are_good-more mode c (p ∷ pieces) piece good none =
    good_after (is_some (bad_in mode.hex c p)) (are_good mode (after_piece mode c p) pieces) (are_good mode (after_piece mode c p) (pieces ++ piece ∷ []))
    (λ h. are_good-more mode (after_piece mode c p) pieces piece h none) good

-- ---- what was told

pub told_more : (mode : MonitorMode) (events more : List LineEvent) (s next : Session) (start now after : Option (List ℕ)) (text : List ℕ)
    → HasTold mode events s start now → Hears more s.line next.line [] text → Appends now after text → HasTold mode (events ++ more) next start after
told_more mode events more s next start now after text t h wrote =
    let heard = after_events (nothing_yet mode.standard) events in
    let p = mode.detail in
    let told : text ≡ events_report p heard more = h.text ∙ ap (λ q. events_report q (hearing_of s.line) more) t.prints ∙ ap (λ k. events_report p k more) t.heard in
    record {
      heard = h.heard ∙ ap (λ k. after_events k more) t.heard ∙ sym (after_events-append (nothing_yet mode.standard) events more);
      prints = h.prints ∙ t.prints;
      is_open = h.is_open;
      written = subst (λ l. Appends start after l) (ap (λ l. events_report p (nothing_yet mode.standard) events ++ l) told ∙ sym (events_report-append p (nothing_yet mode.standard) events more))
          (Appends-trans start now after (events_report p (nothing_yet mode.standard) events) text t.written wrote);
    }

-- ---- pieces that came

pub came_none : {M : Type 0} (tells : M → ℕ → M → Type 0) (clock : M) (input : Option (List ℕ)) → CameIn tells clock clock input input []
came_none tells clock input = record { taken = Consumes-nil input; moments = refl }

moments-more : {M : Type 0} (tells : M → ℕ → M → Type 0) (first mid last : M) (moments : List ℕ) (moment : ℕ) → Told tells first moments mid
    → tells mid moment last → Told tells first (moments ++ moment ∷ []) last
moments-more {M} tells first mid last [] moment same is = (last, subst (λ m. tells m moment last) same is, refl)
moments-more {M} tells first mid last (m ∷ moments) moment (next, told, more) is = (next, told, moments-more tells next mid last moments moment more is)

bytes_of-more : (pieces : List Piece) (piece : Piece) → bytes_of (pieces ++ piece ∷ []) ≡ bytes_of pieces ++ piece.bytes
bytes_of-more pieces piece =
    flat_map-append (λ (p : Piece). p.bytes) pieces (piece ∷ []) ∙ ap (λ l. bytes_of pieces ++ l) (append-nil piece.bytes)

-- five for each byte
weighs_more : (pieces : List Piece) (piece : Piece) (old new : ℕ) → old ≤ 5 * length (bytes_of pieces) → new ≤ old + 5 * length piece.bytes
    → new ≤ 5 * length (bytes_of (pieces ++ piece ∷ []))
weighs_more pieces piece old new so_far more =
    omega (arith, ap length (bytes_of-more pieces piece), length-append (bytes_of pieces) piece.bytes)

pub came_more : {M : Type 0} (tells : M → ℕ → M → Type 0) (first mid last : M) (i0 i1 i2 : Option (List ℕ)) (pieces : List Piece) (piece : Piece)
    → CameIn tells first mid i0 i1 pieces → Consumes i1 i2 piece.bytes → tells mid piece.moment last → CameIn tells first last i0 i2 (pieces ++ piece ∷ [])
came_more tells first mid last i0 i1 i2 pieces piece came taken is = record {
  taken = subst (λ l. Consumes i0 i2 l) (sym (bytes_of-more pieces piece))
      (Consumes-trans i0 i1 i2 (bytes_of pieces) piece.bytes came.taken taken);
  moments = subst (λ l. Told tells first l last) (sym (map-append (λ (p : Piece). p.moment) pieces (piece ∷ [])))
      (moments-more tells first mid last (moments_of pieces) piece.moment came.moments is);
}

-- ---- what was told of them

weight_new : (s : Session) → IsNew s → weight s ≡ 0
weight_new s new =
    let held : load (hearing_of s.line) ≡ load (nothing_yet s.mode.standard) = ap load new.heard in
    let line : length s.characters.items ≡ 0 = ap (λ (c : Cut). length c.line) new.cut in
    let ended : s.ended ≡ 0 = ap (λ (c : Cut). c.ended) new.cut in
    omega arith

pub follows_none : (s : Session) (now : Option (List ℕ)) → IsNew s → IsReady s → HasToldPieces s.mode [] s now now
unfolding after_all report_of_all after_pieces pieces_events are_good
follows_none s now new ready = record {
  mode_is = refl;
  cut = new.cut;
  told = record { heard = new.heard; prints = new.prints; is_open = ready.is_open; written = Appends-nil now };
  good = refl;
  ready = ready;
  weighs = omega (arith, weight_new s new);
}

-- what a piece brings, in the words of the pieces before it
events_are : (mode : MonitorMode) (pieces : List Piece) (piece : Piece) (s : Session) → s.mode ≡ mode → cut_of s ≡ after_pieces mode nothing_cut pieces
    → piece_events s.mode (cut_of s) piece ≡ piece_events mode (after_pieces mode nothing_cut pieces) piece
events_are mode pieces piece s same cut = ap (λ m. piece_events m (cut_of s) piece) same ∙ ap (λ c. piece_events mode c piece) cut

bad_is : (mode : MonitorMode) (pieces : List Piece) (piece : Piece) (s : Session) → s.mode ≡ mode → cut_of s ≡ after_pieces mode nothing_cut pieces
    → bad_in s.mode.hex (cut_of s) piece ≡ bad_in mode.hex (after_pieces mode nothing_cut pieces) piece
bad_is mode pieces piece s same cut = ap (λ (m : MonitorMode). bad_in m.hex (cut_of s) piece) same ∙ ap (λ c. bad_in mode.hex c piece) cut

hears_told : (mode : MonitorMode) (pieces : List Piece) (piece : Piece) (s next : Session) (start now after : Option (List ℕ)) (text : List ℕ)
    → HasToldPieces mode pieces s start now → Hears (piece_events s.mode (cut_of s) piece) s.line next.line [] text → Appends now after text
    → HasTold mode (pieces_events mode nothing_cut (pieces ++ piece ∷ [])) next start after
hears_told mode pieces piece s next start now after text f h wrote =
    let events = piece_events mode (after_pieces mode nothing_cut pieces) piece in
    subst (λ l. HasTold mode l next start after) (sym (pieces_events-more mode nothing_cut pieces piece))
    (told_more mode (pieces_events mode nothing_cut pieces) events s next start now after text f.told
    (subst (λ l. Hears l s.line next.line [] text) (events_are mode pieces piece s f.mode_is f.cut) h) wrote)

pub follows_more : (mode : MonitorMode) (pieces : List Piece) (piece : Piece) (s next : Session) (start now after : Option (List ℕ)) (text : List ℕ)
    → HasToldPieces mode pieces s start now → TakesPiece true piece s next [] text → Appends now after text → weight next ≤ weight s + 5 * length piece.bytes
    → HasToldPieces mode (pieces ++ piece ∷ []) next start after
follows_more mode pieces piece s next start now after text f (goes, none) wrote grows = record {
  mode_is = goes.mode ∙ f.mode_is;
  cut = goes.cut ∙ ap (λ m. after_piece m (cut_of s) piece) f.mode_is ∙ ap (λ c. after_piece mode c piece) f.cut ∙ sym (after_pieces-more mode nothing_cut pieces piece);
  told = hears_told mode pieces piece s next start now after text f goes.hears wrote;
  good = are_good-more mode nothing_cut pieces piece f.good (sym (bad_is mode pieces piece s f.mode_is f.cut) ∙ none);
  ready = goes.ready;
  weighs = weighs_more pieces piece (weight s) (weight next) f.weighs grows;
}

pub broke_in : (mode : MonitorMode) (pieces : List Piece) (piece : Piece) (s next : Session) (start now after : Option (List ℕ)) (text : List ℕ)
    → HasToldPieces mode pieces s start now → TakesPiece false piece s next [] text → Appends now after text → weight next ≤ weight s + 5 * length piece.bytes
    → Broke mode pieces piece next start after
broke_in mode pieces piece s next start now after text f b wrote grows = record {
  told = hears_told mode pieces piece s next start now after text f b.hears wrote;
  good = f.good;
  bad = sym (bad_is mode pieces piece s f.mode_is f.cut) ∙ b.bad_is;
  weighs = weighs_more pieces piece (weight s) (weight next) f.weighs grows;
}

-- ---- in part

pub more_report : (mode : MonitorMode) (pieces : List Piece) → input_report More mode pieces ≡ events_report mode.detail (nothing_yet mode.standard) (pieces_events mode nothing_cut pieces)
more_report mode pieces = ap (events_report mode.detail (nothing_yet mode.standard)) (append-nil (pieces_events mode nothing_cut pieces))

-- pieces in which no bad line ended, and one more
pub none_bad : (mode : MonitorMode) (pieces : List Piece) → are_good mode nothing_cut pieces ≡ true → OnlyLastIsBad mode pieces
none_bad mode pieces good = record { front = pieces; end = []; split = sym (append-nil pieces); one = omega arith; good = good }

pub last_bad : (mode : MonitorMode) (pieces : List Piece) (piece : Piece) → are_good mode nothing_cut pieces ≡ true → OnlyLastIsBad mode (pieces ++ piece ∷ [])
last_bad mode pieces piece good = record { front = pieces; end = piece ∷ []; split = refl; one = omega arith; good = good }

-- all that was told before, and a beginning of what comes after it
unfoldable pub part_of : {M : Type 0} (tells : M → ℕ → M → Type 0) (mode : MonitorMode) (first last : M) (i0 i2 start now after : Option (List ℕ))
    (earlier later : List Piece) (following : Following) (more : List ℕ) (count : ℕ) → length later ≤ 1
    → CameIn tells first last i0 i2 (earlier ++ later) → OnlyLastIsBad mode (earlier ++ later)
    → Appends start now (events_report mode.detail (nothing_yet mode.standard) (pieces_events mode nothing_cut earlier))
    → input_report following mode (earlier ++ later) ≡ events_report mode.detail (nothing_yet mode.standard) (pieces_events mode nothing_cut earlier) ++ more
    → Appends now after (take count more) → IsToldInPart tells mode first last i0 i2 start after
part_of tells mode first last i0 i2 start now after earlier later following more count few came bad told is wrote =
    let front = events_report mode.detail (nothing_yet mode.standard) (pieces_events mode nothing_cut earlier) in
    let sizes : length (input_report More mode earlier) ≡ length front = ap length (more_report mode earlier) in
    record {
      earlier = earlier;
      later = later;
      few = few;
      came = came;
      bad = bad;
      following = following;
      count = length front + count;
      least = omega arith;
      written = subst (λ l. Appends start after l) (sym (ap (take (length front + count)) is ∙ take-append-add front more count))
          (Appends-trans start now after front (take count more) told wrote);
    }

-- the report of one piece more
report_more : (mode : MonitorMode) (pieces : List Piece) (piece : Piece) → input_report More mode (pieces ++ piece ∷ [])
    ≡ events_report mode.detail (nothing_yet mode.standard) (pieces_events mode nothing_cut pieces)
    ++ events_report mode.detail (after_events (nothing_yet mode.standard) (pieces_events mode nothing_cut pieces)) (piece_events mode (after_pieces mode nothing_cut pieces) piece)
report_more mode pieces piece =
    more_report mode (pieces ++ piece ∷ []) ∙ ap (events_report mode.detail (nothing_yet mode.standard)) (pieces_events-more mode nothing_cut pieces piece)
    ∙ events_report-append mode.detail (nothing_yet mode.standard) (pieces_events mode nothing_cut pieces) (piece_events mode (after_pieces mode nothing_cut pieces) piece)

text_is : (mode : MonitorMode) (pieces : List Piece) (piece : Piece) (s next : Session) (start now : Option (List ℕ)) (text : List ℕ)
    → HasToldPieces mode pieces s start now → Hears (piece_events s.mode (cut_of s) piece) s.line next.line [] text
    → text ≡ events_report mode.detail (after_events (nothing_yet mode.standard) (pieces_events mode nothing_cut pieces)) (piece_events mode (after_pieces mode nothing_cut pieces) piece)
text_is mode pieces piece s next start now text f h =
    h.text ∙ ap (λ q. events_report q (hearing_of s.line) (piece_events s.mode (cut_of s) piece)) f.told.prints
    ∙ ap (λ k. events_report mode.detail k (piece_events s.mode (cut_of s) piece)) f.told.heard
    ∙ ap (events_report mode.detail (after_events (nothing_yet mode.standard) (pieces_events mode nothing_cut pieces))) (events_are mode pieces piece s f.mode_is f.cut)

hears_of : (good : Bool) (piece : Piece) (s next : Session) (text : List ℕ) → TakesPiece good piece s next [] text
    → Hears (piece_events s.mode (cut_of s) piece) s.line next.line [] text
hears_of true piece s next text (goes, none) = goes.hears
hears_of false piece s next text breaks = breaks.hears

-- the write failed
pub part_written : {M : Type 0} (tells : M → ℕ → M → Type 0) (mode : MonitorMode) (first last : M) (i0 i2 start now after : Option (List ℕ)) (pieces : List Piece) (piece : Piece)
    (s next : Session) (good : Bool) (text : List ℕ) (count : ℕ) → CameIn tells first last i0 i2 (pieces ++ piece ∷ []) → HasToldPieces mode pieces s start now
    → TakesPiece good piece s next [] text → Appends now after (take count text) → IsToldInPart tells mode first last i0 i2 start after
part_written tells mode first last i0 i2 start now after pieces piece s next good text count came f takes wrote =
    part_of tells mode first last i0 i2 start now after pieces (piece ∷ []) More text count (omega arith) came (last_bad mode pieces piece f.good) f.told.written
    (report_more mode pieces piece ∙ ap (λ l. events_report mode.detail (nothing_yet mode.standard) (pieces_events mode nothing_cut pieces) ++ l)
    (sym (text_is mode pieces piece s next start now text f (hears_of good piece s next text takes))))
    wrote

-- nothing of the piece was written
pub part_kept : {M : Type 0} (tells : M → ℕ → M → Type 0) (mode : MonitorMode) (first last : M) (i0 i2 start now after : Option (List ℕ)) (pieces : List Piece) (piece : Piece)
    (s : Session) → CameIn tells first last i0 i2 (pieces ++ piece ∷ []) → HasToldPieces mode pieces s start now → Keeps now after
    → IsToldInPart tells mode first last i0 i2 start after
part_kept tells mode first last i0 i2 start now after pieces piece s came f kept =
    part_of tells mode first last i0 i2 start now after pieces (piece ∷ []) More _ 0 (omega arith) came (last_bad mode pieces piece f.good) f.told.written (report_more mode pieces piece)
    (Appends-kept now now after [] (Appends-nil now) kept)

-- because too much was counted
pub long_kept : {M : Type 0} (tells : M → ℕ → M → Type 0) (mode : MonitorMode) (first last : M) (i0 i2 start now after : Option (List ℕ)) (pieces : List Piece) (piece : Piece)
    (s : Session) → CameIn tells first last i0 i2 (pieces ++ piece ∷ []) → HasToldPieces mode pieces s start now → Keeps now after
    → 2 ^ 60 ≤ weight s + 5 * length piece.bytes → IsTooLong tells mode first last i0 i2 start after
unfolding part_of part_kept
long_kept tells mode first last i0 i2 start now after pieces piece s came f kept long = record {
  part = part_kept tells mode first last i0 i2 start now after pieces piece s came f kept;
  long = omega (arith, f.weighs, ap length (bytes_of-more pieces piece), length-append (bytes_of pieces) piece.bytes);
}

-- no piece more was taken
unfoldable pub part_here : {M : Type 0} (tells : M → ℕ → M → Type 0) (mode : MonitorMode) (first last : M) (i0 i2 start now : Option (List ℕ)) (pieces : List Piece) (s : Session)
    → CameIn tells first last i0 i2 pieces → HasToldPieces mode pieces s start now → IsToldInPart tells mode first last i0 i2 start now
part_here tells mode first last i0 i2 start now pieces s came f =
    part_of tells mode first last i0 i2 start now now pieces [] More [] 0 (omega arith) (subst (λ l. CameIn tells first last i0 i2 l) (sym (append-nil pieces)) came)
    (subst (OnlyLastIsBad mode) (sym (append-nil pieces)) (none_bad mode pieces f.good)) f.told.written
    (ap (input_report More mode) (append-nil pieces) ∙ more_report mode pieces ∙ sym (append-nil (events_report mode.detail (nothing_yet mode.standard) (pieces_events mode nothing_cut pieces))))
    (Appends-nil now)

-- ---- reading on

-- at least so many bytes
pub record HasReadMany (count : ℕ) {M : Type 0} (tells : M → ℕ → M → Type 0) (mode : MonitorMode) (first last : M) (i0 i2 start now : Option (List ℕ)) (s : Session) : Type 0 where
  pub all : HasRead tells mode first last i0 i2 start now s
  pub many : count ≤ length (bytes_of all.pieces)

module _ {M : Type 0} (tells : M → ℕ → M → Type 0) (mode : MonitorMode) (first : M) (i0 start : Option (List ℕ)) where
  pub read_none : (s : Session) → s.mode ≡ mode → IsNew s → IsReady s → HasReadMany 0 tells mode first first i0 i0 start start s
  read_none s is new ready = record {
    all = record {
      pieces = [];
      came = came_none tells first i0;
      follows = subst (λ m. HasToldPieces m [] s start start) is (follows_none s start new ready);
    };
    many = omega arith;
  }

  pub read_on : (mid last : M) (i1 i2 now after : Option (List ℕ)) (s next : Session) (piece : Piece) (failed : Bool) → HasRead tells mode first mid i0 i1 start now s
      → Consumes i1 i2 piece.bytes → tells mid piece.moment last → TellsPiece piece s next now after failed (Ok true) → HasRead tells mode first last i0 i2 start after next
  read_on mid last i1 i2 now after s next piece failed r taken moment (text, takes, wrote, well, grows) = record {
    pieces = r.pieces ++ piece ∷ [];
    came = came_more tells first mid last i0 i1 i2 r.pieces piece r.came taken moment;
    follows = follows_more mode r.pieces piece s next start now after text r.follows takes wrote grows;
  }

  pub read_broke : (mid last : M) (i1 i2 now after : Option (List ℕ)) (s next : Session) (piece : Piece) (failed : Bool) → HasRead tells mode first mid i0 i1 start now s
      → Consumes i1 i2 piece.bytes → tells mid piece.moment last → TellsPiece piece s next now after failed (Ok false) → HasBroken tells mode first last i0 i2 start after next
  read_broke mid last i1 i2 now after s next piece failed r taken moment (text, takes, wrote, well, grows) = record {
    front = r.pieces;
    piece = piece;
    came = came_more tells first mid last i0 i1 i2 r.pieces piece r.came taken moment;
    broke = broke_in mode r.pieces piece s next start now after text r.follows takes wrote grows;
  }

  pub read_stops : (mid last : M) (i1 i2 now after : Option (List ℕ)) (s next : Session) (piece : Piece) (input_failed failed : Bool) (fault : ToolFault)
      → HasRead tells mode first mid i0 i1 start now s → Consumes i1 i2 piece.bytes → tells mid piece.moment last → TellsPiece piece s next now after failed (Err fault)
      → input_failed ≡ false → ReadsAll tells mode first last i0 i2 input_failed start after failed next (Err fault)
  read_stops mid last i1 i2 now after s next piece input_failed failed NoMemory r taken moment (kept, well) input =
      (part_kept tells mode first last i0 i2 start now after r.pieces piece s (came_more tells first mid last i0 i1 i2 r.pieces piece r.came taken moment) r.follows kept, input, well)
  read_stops mid last i1 i2 now after s next piece input_failed failed TooLong r taken moment (kept, well, long) input = (
    long_kept tells mode first last i0 i2 start now after r.pieces piece s (came_more tells first mid last i0 i1 i2 r.pieces piece r.came taken moment) r.follows kept long,
    input,
    well,
  )
  read_stops mid last i1 i2 now after s next piece input_failed failed WriteFailed r taken moment (good, other, text, count, takes, wrote, ill) input = (
    part_written tells mode first last i0 i2 start now after r.pieces piece s other good text count (came_more tells first mid last i0 i1 i2 r.pieces piece r.came taken moment) r.follows takes wrote,
    input,
    ill,
  )
  read_stops mid last i1 i2 now after s next piece input_failed failed fault r taken moment stops input = absurd stops

  -- as many pieces as may come have come
  pub read_long : (mid : M) (i1 now : Option (List ℕ)) (s : Session) (r : HasRead tells mode first mid i0 i1 start now s) → 2 ^ 57 ≤ length (bytes_of r.pieces)
      → IsTooLong tells mode first mid i0 i1 start now
  unfolding part_of part_here
  read_long mid i1 now s r long = record {
    part = part_here tells mode first mid i0 i1 start now r.pieces s r.came r.follows;
    long = subst (λ l. 2 ^ 57 ≤ length (bytes_of l)) (sym (append-nil r.pieces)) long;
  }

  -- by whether a bad line has ended
  pub read_on_by : (good : Bool) (mid last : M) (i1 i2 now after : Option (List ℕ)) (s next : Session) (piece : Piece) (failed : Bool) → good ≡ true
      → (count : ℕ) → HasReadMany count tells mode first mid i0 i1 start now s → 1 ≤ length piece.bytes
      → Consumes i1 i2 piece.bytes → tells mid piece.moment last → TellsPiece piece s next now after failed (Ok good)
      → HasReadMany (count + 1) tells mode first last i0 i2 start after next × (failed ≡ false)
  unfolding read_on
  read_on_by true mid last i1 i2 now after s next piece failed is count r some taken moment told = (
    record {
      all = read_on mid last i1 i2 now after s next piece failed r.all taken moment told;
      many = omega (arith, r.many, ap length (bytes_of-more r.all.pieces piece), length-append (bytes_of r.all.pieces) piece.bytes);
    },
    told.3,
  )
  read_on_by false mid last i1 i2 now after s next piece failed is count r some taken moment told = absurd cc

  pub read_broke_by : (good : Bool) (mid last : M) (i1 i2 now after : Option (List ℕ)) (s next : Session) (piece : Piece) (failed : Bool) → good ≡ false
      → HasRead tells mode first mid i0 i1 start now s → Consumes i1 i2 piece.bytes → tells mid piece.moment last → TellsPiece piece s next now after failed (Ok good)
      → HasBroken tells mode first last i0 i2 start after next × (failed ≡ false)
  read_broke_by false mid last i1 i2 now after s next piece failed is r taken moment told =
      (read_broke mid last i1 i2 now after s next piece failed r taken moment told, told.3)
  read_broke_by true mid last i1 i2 now after s next piece failed is r taken moment told = absurd cc

-- nothing was read and nothing written
pub nothing_read : {M : Type 0} (tells : M → ℕ → M → Type 0) (mode : MonitorMode) (clock : M) (input output : Option (List ℕ))
    → IsToldInPart tells mode clock clock input input output output
unfolding after_pieces pieces_events report_of_all are_good
nothing_read tells mode clock input output =
    part_of tells mode clock clock input input output output output [] [] More [] 0 (omega arith) (came_none tells clock input) (none_bad mode [] refl) (Appends-nil output) refl (Appends-nil output)
