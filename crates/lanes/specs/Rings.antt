-- The lanes of all channels for all open frames, as a ring over the frames.
use Rattle.std.specs.Prelude.{ℕ, suc, ◌+◌, ◌-◌, ◌*◌, ◌<◌, Bool, cond, ◌&&◌, List, [], ◌∷◌, ◌++◌, Some, None, Ok, Err, Option, Result, ◌==◌, nat_lt, slice_index_or}
use Rattle.lists.specs.Lists.{has_room}
use Rattle.lanes.specs.declared.buffers.Buffers.{Buffers}
use Rattle.lanes.specs.declared.flits.Flit.{Flit}

-- the flits that wait, by channel and by how far the frame is ahead of the head
abbrev pub Queues : Type 0
Queues = ℕ → ℕ → List Flit

-- the number of open frames
abbrev pub frames_of : Buffers → ℕ
frames_of b = b.window

-- where frame k from the head on stands in a ring of `window` places that the head has turned to `turn`
abbrev pub ring : ℕ → ℕ → ℕ → ℕ
ring turn window k = cond (nat_lt (turn + k) window) (turn + k) (turn + k - window)

-- the place of that frame's lane among the lanes of all channels, 8 to a channel
abbrev pub place : ℕ → ℕ → ℕ → ℕ → ℕ
place turn window c k = c * 8 + ring turn window k

-- the queue of channel c for frame k; a frame that is not open has none, and neither has a place past the end
abbrev pub queue_in : ℕ → ℕ → List (List Flit) → Queues
queue_in turn window qs c k = cond (nat_lt k window) (slice_index_or qs (place turn window c k) []) []

-- the queues that the buffers hold
unfoldable pub lane_of : Buffers → Queues
lane_of b = queue_in b.turn b.window b.lanes

-- nothing waits
abbrev pub empty_lanes : Queues
empty_lanes = λ c k. []

-- the number from 1 to 8 that is nearest
abbrev pub clamped : ℕ → ℕ
clamped n = cond (nat_lt n 1) 1 (cond (nat_lt 8 n) 8 n)

-- there is such a lane
abbrev pub kept : Buffers → ℕ → ℕ → Bool
kept b c k = nat_lt c 320 && nat_lt k (frames_of b)

-- its place
abbrev pub place_answer : Buffers → ℕ → ℕ → Option ℕ
place_answer b c k = cond (kept b c k) (Some (place b.turn b.window c k)) None

-- a place that is told is one of the n
abbrev pub Below : ℕ → Option ℕ → Type 0
Below n None = Unit {0}
Below n (Some p) = p < n

-- all queues, with q as that of channel c for frame k
abbrev pub with_lane : Queues → ℕ → ℕ → List Flit → Queues
with_lane f c k q = λ d j. cond (d == c && j == k) q (f d j)

-- the lane of channel c for frame k takes one flit more
abbrev pub takes : Buffers → ℕ → ℕ → Bool
takes b c k = nat_lt c 320 && (nat_lt k (frames_of b) && has_room 8 (lane_of b c k))

-- the flit is handed back where the lane takes none, and comes in behind the others where it takes one
abbrev pub push_told : Buffers → ℕ → ℕ → Flit → Result (Unit {0}) Flit
push_told b c k x = cond (takes b c k) (Ok tt) (Err x)

abbrev pub after_push : Buffers → ℕ → ℕ → Flit → Queues
after_push b c k x = cond (takes b c k) (with_lane (lane_of b) c k (lane_of b c k ++ x ∷ [])) (lane_of b)

-- each frame comes one nearer to the head, and the queues of the head go to the frame that opens
abbrev pub turned : ℕ → Queues → Queues
turned window f = λ c k. cond (nat_lt (suc k) window) (f c (suc k)) (cond (suc k == window) (f c 0) [])
