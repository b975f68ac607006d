-- Room for one more command: as the queue has it, and as its commands have it.
use Rattle.osdp_controller.proofs.Common.{◌≡◌, ◌+◌, ◌-◌, ◌*◌, ◌≤◌, ◌<◌, ◌&&◌, Bool, true, false, ℕ, List, [], ◌∷◌, length, map, drop, Option, Some, None, refl, sym, ap, ◌∙◌, arith, All, option_map_or, IfSome, if◌then◌else◌, is_some, nat_le, nat_lt, le-leb, leb-true, lt-ltb, length-map, length-drop, All-drop, All-head, All-tail, Command, Room, command_code, command_data, command_kept, most_data, Session, IsCommand, on_its_way, bytes_waiting, command_size, has_room, IsController, first_of, machine_of, waiting_in, Strings, fits_in, total}
use Rattle.osdp_controller.proofs.Waiting.{bytes_total, size_is}

-- the bytes of all are those of the command on its way and of those that wait
kept_total : (o : Option Command) (items : List (List ℕ)) → IfSome o (λ c. c ≡ command_kept (first_of items)) → (is_some o ≡ true → 1 ≤ length items) → All IsCommand items
    → option_map_or command_size o 0 + bytes_waiting (map command_kept (if is_some o then drop 1 items else items)) ≡ total items
kept_total None items own some commands = let all = bytes_total items commands in omega (arith, all)
kept_total (Some c) [] own some commands = absurd (let e = some refl in omega (arith, e))
kept_total (Some c) (s ∷ ss) own some commands =
    let first : command_size c ≡ length s = ap command_size own ∙ size_is s (All-head IsCommand s ss commands) in
    let rest = bytes_total ss (All-tail IsCommand s ss commands) in
    omega (arith, first, rest)

short : (ss : List (List ℕ)) → All IsCommand ss → total ss ≤ length ss * (1 + most_data)
short [] commands = omega arith
short (s ∷ ss) commands =
    let first = (All-head IsCommand s ss commands).size in
    let rest = short ss (All-tail IsCommand s ss commands) in
    omega (arith, first, rest)

-- all but one wait
one_more : (b : Bool) (items : List (List ℕ)) → length items ≤ 1 + length (if b then drop 1 items else items)
one_more true items = let left = length-drop 1 items in omega (arith, left)
one_more false items = omega arith

waiting_commands : (b : Bool) (items : List (List ℕ)) → All IsCommand items → All IsCommand (if b then drop 1 items else items)
waiting_commands true items commands = All-drop IsCommand 1 items commands
waiting_commands false items commands = commands

-- room as the queue has it is room as its commands have it
pub room_is : (c : Command) (bytes : List ℕ) (session : Session) (q : Strings) (room : Room) → bytes ≡ command_code c ∷ command_data c → length bytes ≤ 1 + most_data
    → IfSome (on_its_way session.state) (λ d. d ≡ command_kept (first_of q.items)) → length (map command_kept (waiting_in session.state q.items)) < room.messages
    → IsController session q room → fits_in (length bytes) q ≡ has_room c (machine_of session q room)
room_is c bytes session q room spelled size own fewer is = by_test (nat_le (room.messages * (1 + most_data)) room.bytes) refl
  where
    o : Option Command
    o = on_its_way session.state

    w : List (List ℕ)
    w = waiting_in session.state q.items

    same : length bytes ≡ command_size c
    same = ap length spelled

    whole : option_map_or command_size o 0 + bytes_waiting (map command_kept w) ≡ total q.items
    whole = kept_total o q.items own is.first is.commands

    count : length (map command_kept w) ≡ length w
    count = length-map w command_kept

    place : (nat_lt (length q.items) (room.messages + 1) ≡ true)
    place = let more = one_more (is_some o) q.items in lt-ltb (length q.items) (room.messages + 1) (omega (arith, more, count, fewer))

    waits : nat_lt (length (map command_kept w)) room.messages ≡ true
    waits = lt-ltb (length (map command_kept w)) room.messages fewer

    ample : room.messages * (1 + most_data) ≤ room.bytes
        → nat_le (length bytes) ((room.bytes + (1 + most_data)) - total q.items) ≡ nat_le (command_size c) (room.bytes - (0 + bytes_waiting (map command_kept w)))
    ample all =
        let more = one_more (is_some o) q.items in
        let most = short q.items is.commands in
        let waiting = bytes_total w (waiting_commands (is_some o) q.items is.commands) in
        let least = short w (waiting_commands (is_some o) q.items is.commands) in
        le-leb (length bytes) ((room.bytes + (1 + most_data)) - total q.items) (omega (arith, more, most, count, fewer, all, size))
        ∙ sym (le-leb (command_size c) (room.bytes - (0 + bytes_waiting (map command_kept w))) (omega (arith, waiting, least, count, fewer, all, size, same)))

    by_test : (t : Bool) → nat_le (room.messages * (1 + most_data)) room.bytes ≡ t → fits_in (length bytes) q ≡ has_room c (machine_of session q room)
    by_test true all =
        ap (λ (r : ℕ). nat_lt (length q.items) q.capacity && nat_le (length bytes) (r - total q.items)) (is.bytes ∙ ap (λ (t : Bool). if t then room.bytes + (1 + most_data) else room.bytes) all)
        ∙ ap (λ (n : ℕ). nat_lt (length q.items) n && nat_le (length bytes) ((room.bytes + (1 + most_data)) - total q.items)) is.places
        ∙ ap (λ (t : Bool). t && nat_le (length bytes) ((room.bytes + (1 + most_data)) - total q.items)) place
        ∙ ample (leb-true (room.messages * (1 + most_data)) room.bytes all)
        ∙ sym (ap (λ (t : Bool). t && nat_le (command_size c) (room.bytes - (0 + bytes_waiting (map command_kept w)))) waits)
        ∙ sym (ap (λ (t : Bool). nat_lt (length (map command_kept w)) room.messages && nat_le (command_size c) (room.bytes - ((if t then 0 else option_map_or command_size o 0) + bytes_waiting (map command_kept w)))) all)
    by_test false less =
        ap (λ (r : ℕ). nat_lt (length q.items) q.capacity && nat_le (length bytes) (r - total q.items)) (is.bytes ∙ ap (λ (t : Bool). if t then room.bytes + (1 + most_data) else room.bytes) less)
        ∙ ap (λ (n : ℕ). nat_lt (length q.items) n && nat_le (length bytes) (room.bytes - total q.items)) is.places
        ∙ ap (λ (t : Bool). t && nat_le (length bytes) (room.bytes - total q.items)) place
        ∙ ap (λ (k : ℕ). nat_le k (room.bytes - total q.items)) same
        ∙ sym (ap (λ (k : ℕ). nat_le (command_size c) (room.bytes - k)) whole)
        ∙ sym (ap (λ (t : Bool). t && nat_le (command_size c) (room.bytes - (option_map_or command_size o 0 + bytes_waiting (map command_kept w)))) waits)
        ∙ sym (ap (λ (t : Bool). nat_lt (length (map command_kept w)) room.messages && nat_le (command_size c) (room.bytes - ((if t then 0 else option_map_or command_size o 0) + bytes_waiting (map command_kept w)))) less)
