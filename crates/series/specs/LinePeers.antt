-- How our peer behaves on a line that loses packets (document 02, request 2026-08), and wrong ways.
-- The claim of specs/Line is to hold of ours and of none of the others: neither is proved yet.
-- Assumes nothing: these are definitions.
use Rattle.std.specs.Prelude.{List, ℕ}
use Rattle.challenges.specs.Challenges.{next_id}
use Rattle.packets.specs.Frame.{octet}
use Rattle.packets.specs.Reply.{read_reply}
use Rattle.peer.specs.Write.{Wrote}
use Rattle.peer.specs.Peer.{after_writing, peer_reads}
use Rattle.peer.specs.declared.Peer.{Peer}
use Rattle.series.specs.Series.{Packet, Reading, writes}
use Rattle.series.specs.Writers.{Writer, our_writer}

-- A copy of a packet of our peer's: which of its packets it is, counted from 0; what it is written
-- from, our peer as it was then, the password and name or passwords, and the output buffer. Its
-- octets are what the writer left there. (The number is this model's own: neither end sees it.)
pub record Copy : Type 0 where
  pub number : ℕ
  pub packet : Packet
  pub out : List ℕ
  pub writing : Peer

-- what the writer of a copy answered and left
abbrev pub wrote_of : Writer → Copy → Wrote
wrote_of w c = writes w c.writing.turn c.packet c.out

-- our peer once it was written
abbrev pub after_sending : Writer → Copy → Peer
after_sending w c = after_writing c.writing (wrote_of w c).answer

-- a retransmission: the copy that is sent, and our peer afterwards
pub record Retransmission : Type 0 where
  pub copy : Copy
  pub peer : Peer

-- how a peer writes its packets, what it sends when no reply came, and how it reads a reply
pub record LinePeer : Type 0 where
  pub writer : Writer
  pub again : Peer → Copy → Retransmission
  pub reads : Peer → List ℕ → Reading

-- "let our peer send its last packet again": the same octets, and our peer stays as it was
abbrev pub same_again : Peer → Copy → Retransmission
same_again q c = record { copy = c; peer = q }

abbrev pub our_line_peer : LinePeer
our_line_peer = record { writer = our_writer; again = same_again; reads = peer_reads }

-- ---- wrong ways

-- writes the packet anew under the next identifier, and awaits a reply to that
abbrev pub renumbered : Copy → Copy
renumbered c =
    record {
      number = c.number;
      packet = c.packet;
      out = c.out;
      writing = record {
        sent = c.writing.sent;
        turn = record {
          id = next_id c.writing.turn.id;
          challenge = c.writing.turn.challenge;
        };
      };
    }

abbrev pub new_again : Peer → Copy → Retransmission
new_again q c =
    record {
      copy = renumbered c;
      peer = after_sending our_writer (renumbered c);
    }

abbrev pub new_identifier : LinePeer
new_identifier = record { writer = our_writer; again = new_again; reads = peer_reads }

-- takes every reply for one to its last packet, whatever identifier it carries
abbrev pub any_reads : Peer → List ℕ → Reading
any_reads q reply = read_reply (octet 1 reply) reply

abbrev pub any_identifier : LinePeer
any_identifier = record { writer = our_writer; again = same_again; reads = any_reads }
