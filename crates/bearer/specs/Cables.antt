-- A cable as a line, and what its far side does to it.
use Rattle.std.specs.Prelude.{◌≡◌, ℕ, ◌+◌, ◌-◌, ◌<◌, ◌≤◌, List, [], ◌∷◌, ◌++◌, length, Some, None, Ok, Err, Option, Result}
use Rattle.bearer.specs.Held.{held}
use Rattle.bearer.specs.Lines.{Line}
use Rattle.bearer.specs.declared.ring.Ring.{Ring}
use Rattle.bearer.specs.declared.cable.Cable.{Cable}
use Rattle.bearer.specs.declared.cable.FeedRefusal.{FeedRefusal}
use Rattle.bearer.specs.declared.cable.FeedRefusal.TheVariants.{ExceedsPlaces}

-- the bytes that a ring holds, the oldest first, and its free places
abbrev pub bytes_of : Ring → List ℕ
bytes_of r = held r.places r.head r.count

abbrev pub free_of : Ring → ℕ
free_of r = 128 - length (bytes_of r)

-- the bytes fed wait, the bytes sent are held for the far side, and the room is the free places on that way
abbrev pub line_of : Cable → Line
line_of c = record { waiting = bytes_of c.inward; sent = bytes_of c.outward; room = free_of c.outward }

-- the free places for bytes that are fed
abbrev pub feed_room : Cable → ℕ
feed_room c = free_of c.inward

abbrev pub feed_number : FeedRefusal → ℕ
feed_number ExceedsPlaces = 7

-- what the far side sees of a cable: the line, and the free places for its own bytes
pub record Ends : Type 0 where
  pub line : Line
  pub places : ℕ

abbrev pub ends_of : Cable → Ends
ends_of c = record { line = line_of c; places = feed_room c }

-- feed: the bytes wait behind those that wait, and take their places; 7, and all is as it was, exactly when they exceed the free places
abbrev pub Feeds : List ℕ → Cable → Result (Unit {0}) FeedRefusal → Cable → Type 0
Feeds bytes before (Ok done) after =
    (length bytes ≤ feed_room before)
    × (ends_of after
    ≡ record {
      line = record { waiting = (line_of before).waiting ++ bytes; sent = (line_of before).sent; room = (line_of before).room };
      places = feed_room before - length bytes;
    })
Feeds bytes before (Err e) after = (feed_number e ≡ 7) × (feed_room before < length bytes) × (after ≡ before)

-- fetch: the oldest sent byte goes and its place is free again; none, and all is as it was, exactly when no byte is sent
abbrev pub Fetches : Cable → Option ℕ → Cable → Type 0
Fetches before None after = ((line_of before).sent ≡ []) × (after ≡ before)
Fetches before (Some b) after =
    ((line_of before).sent ≡ b ∷ (line_of after).sent)
    × ((line_of after).room ≡ (line_of before).room + 1)
    × ((line_of after).waiting ≡ (line_of before).waiting)
    × (feed_room after ≡ feed_room before)

-- a byte that is taken frees its place
abbrev pub Frees : ℕ → Option ℕ → ℕ → Type 0
Frees before None after = after ≡ before
Frees before (Some b) after = after ≡ before + 1
