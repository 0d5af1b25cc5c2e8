-- Frames and what they say are two views of one thing.
use Rattle.std.specs.Prelude.{◌≡◌, ℕ, ◌≤◌, List, length}
use Rattle.wire.specs.Bodies.{Content, Says, body_of}
use Rattle.wire.specs.Framing.{frame_of, packed, unpacked, made}

-- of an input that unpacks to a body: what the body says packs again to the same bytes, in every buffer that has the places
unfoldable pub PacksAgain : List ℕ → Type 0
PacksAgain input =
    (room : ℕ) (body : List ℕ) (c : Content) → unpacked room input ≡ made body → Says body c
    → (wide : ℕ) → length input ≤ wide → packed wide c ≡ made input

-- of what is packed: its frame unpacks to its body, the body says just that, and no other bytes unpack to that body
unfoldable pub UnpacksBack : Content → Type 0
UnpacksBack c =
    ((room : ℕ) → 43 ≤ room → unpacked room (frame_of c) ≡ made (body_of c))
    × Says (body_of c) c
    × ((room : ℕ) (input : List ℕ) → unpacked room input ≡ made (body_of c) → input ≡ frame_of c)
