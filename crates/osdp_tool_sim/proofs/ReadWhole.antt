-- An input that is read piece by piece.
use Rattle.osdp_tool_sim.proofs.Common.{◌≡◌, ℕ, ◌+◌, ◌-◌, List, [], ◌∷◌, ◌++◌, length, take, Option, arith, length-append, length-take, Consumes, IsAtEnd, Keeps, Consumes-kept, Consumes-trans, ReadsPastLimit, ReadsSome, ReadsToEnd}
use Rattle.osdp_tool_streams.specs.Reading.{ReadsBytes}

-- what has been read, with as many bytes left of the limit
pub record HasRead (limit left : ℕ) (bytes : List ℕ) (before after : Option (List ℕ)) : Type 0 where
  pub taken : Consumes before after bytes
  pub count : length bytes + left ≡ limit

-- a piece more
pub read_more : (limit left count : ℕ) (buffer bytes : List ℕ) (a b c : Option (List ℕ)) → HasRead limit left bytes a b
    → ReadsBytes left b c buffer count → HasRead limit (left - count) (bytes ++ take count buffer) a c
read_more limit left count buffer bytes a b c was piece =
    let sum = was.count in
    let within = piece.within in
    let room = piece.room in
    record {
      taken = Consumes-trans a b c bytes (take count buffer) was.taken piece.taken;
      count = omega (arith, length-append bytes (take count buffer), length-take count buffer);
    }

-- a piece for which there was no memory
pub read_some_more : (limit left count : ℕ) (buffer bytes : List ℕ) (a b c : Option (List ℕ)) → HasRead limit left bytes a b
    → ReadsBytes left b c buffer count → ReadsSome limit a c
read_some_more limit left count buffer bytes a b c was piece =
    let more = read_more limit left count buffer bytes a b c was piece in
    let sum = more.count in
    record { read = bytes ++ take count buffer; taken = more.taken; within = omega arith }

-- nothing came, or nothing more
pub read_kept : (limit left : ℕ) (bytes : List ℕ) (a b c : Option (List ℕ)) → HasRead limit left bytes a b → Keeps b c → ReadsSome limit a c
read_kept limit left bytes a b c was kept =
    let sum = was.count in
    record { read = bytes; taken = Consumes-kept a b c bytes was.taken kept; within = omega arith }

pub read_to_end : (limit left : ℕ) (bytes : List ℕ) (a b c : Option (List ℕ)) → HasRead limit left bytes a b → Keeps b c × IsAtEnd c
    → ReadsToEnd limit a c bytes
read_to_end limit left bytes a b c was ends =
    let sum = was.count in
    record { taken = Consumes-kept a b c bytes was.taken ends.0; at_end = ends.1; within = omega arith }

-- a byte past the limit
pub read_past : (limit left : ℕ) (byte : ℕ) (bytes : List ℕ) (a b c : Option (List ℕ)) → HasRead limit left bytes a b
    → (left ≡ 0) × Consumes b c (byte ∷ []) → ReadsPastLimit limit a c
read_past limit left byte bytes a b c was past =
    let sum = was.count in
    let none = past.0 in
    record { read = bytes; one_more = byte; taken = Consumes-trans a b c bytes (byte ∷ []) was.taken past.1; whole = omega arith }
