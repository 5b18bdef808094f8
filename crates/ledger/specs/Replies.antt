-- What the calls of a list answer. Definitions only.
use Rattle.std.specs.Prelude.{List, [], ◌∷◌, ℕ, Float}
use Rattle.mesh.specs.Mesh.{Mesh}
use Rattle.builder.specs.Calls.{set_out, settle_out}
use Rattle.writer.specs.Write.{WriteOut}
use Rattle.writer.specs.Tailed.{write_tail_out}
use Rattle.ledger.specs.Ledger.{Call, set_call, settle_call, write_call, State, called}
use Rattle.ledger.specs.Promise.{History, fresh}

-- 01's number and values of a call's answer; and what a write leaves in its output
pub data Reply : Type 0 where
  set_reply : ℕ → Reply
  settle_reply : ℕ → Float → ℕ → Reply
  write_reply_lem : ℕ → ℕ → List ℕ → Reply

-- 0 is acceptance
abbrev pub number : Reply → ℕ
number (set_reply n) = n
number (settle_reply n x k) = n
number (write_reply_lem n k out) = n

abbrev pub write_reply : WriteOut → Reply
write_reply o = write_reply_lem o.answer.number o.answer.length o.output

unfoldable pub replied : Mesh → State → Call → Reply
replied m st (set_call ri oi e) = set_reply (set_out st.builder st.lists ri oi e).answer.number
replied m st (settle_call ri) = let a = (settle_out st.builder m st.lists ri).answer in settle_reply a.number a.gradient a.comparisons
replied m st (write_call t out) = write_reply (write_tail_out st.builder m st.lists t out)

unfoldable pub replies : Mesh → State → List Call → List Reply
replies m st [] = []
replies m st (c ∷ cs) = replied m st c ∷ replies m (called m st c) cs

-- what fresh leaves
abbrev pub begun : History → State
begun h = record { builder = (fresh h).answer.builder; lists = (fresh h).lists }
