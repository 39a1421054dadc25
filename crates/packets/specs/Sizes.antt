-- Sizes of the packets and of their parts, in octets, and where the parts stand.
-- Assumes nothing: these are definitions.
use Rattle.std.specs.Prelude.{ℕ, ◌+◌}

-- code, identifier and Length
abbrev pub head_size : ℕ
head_size = 1 + 1 + 2

-- a challenge, an LM or NT response, and a hash under another one or under a challenge
abbrev pub challenge_size : ℕ
challenge_size = 8

abbrev pub answer_size : ℕ
answer_size = 24

abbrev pub hash_size : ℕ
hash_size = 16

-- ---- a Challenge: the size of the value, and the challenge

abbrev pub challenge_offset : ℕ
challenge_offset = head_size + 1

abbrev pub challenge_length : ℕ
challenge_length = challenge_offset + challenge_size

-- ---- a Response: the size of the value, which is LM response, NT response and flag, and the name

abbrev pub value_size : ℕ
value_size = answer_size + answer_size + 1

abbrev pub lm_offset : ℕ
lm_offset = head_size + 1

abbrev pub nt_offset : ℕ
nt_offset = lm_offset + answer_size

abbrev pub flag_offset : ℕ
flag_offset = nt_offset + answer_size

abbrev pub name_offset : ℕ
name_offset = flag_offset + 1

abbrev pub longest_name : ℕ
longest_name = 256

-- a name has 1 to 256 octets
abbrev pub shortest_response : ℕ
shortest_response = name_offset + 1

abbrev pub longest_response : ℕ
longest_response = name_offset + longest_name

-- ---- a Failure: the message that is written

abbrev pub message_size : ℕ
message_size = 13

-- ---- a version 2 change: for NT and for LM the sealed block and the old hash under the new one,
-- the LM and the NT response, and the flags

-- 512 octets, and the length of the password
abbrev pub block_size : ℕ
block_size = 512 + 4

abbrev pub verifier_offset : ℕ
verifier_offset = head_size + block_size

abbrev pub lm_block_offset : ℕ
lm_block_offset = verifier_offset + hash_size

abbrev pub lm_verifier_offset : ℕ
lm_verifier_offset = lm_block_offset + block_size

abbrev pub lm_answer_offset : ℕ
lm_answer_offset = lm_verifier_offset + hash_size

abbrev pub nt_answer_offset : ℕ
nt_answer_offset = lm_answer_offset + answer_size

abbrev pub flags_offset : ℕ
flags_offset = nt_answer_offset + answer_size

abbrev pub change_size : ℕ
change_size = flags_offset + 2

-- ---- a version 1 change: the old and the new LM hash and the old and the new NT hash, each under
-- the challenge, the length of the new password, and the flags

abbrev pub lm_old_offset : ℕ
lm_old_offset = head_size

abbrev pub lm_new_offset : ℕ
lm_new_offset = lm_old_offset + hash_size

abbrev pub nt_old_offset : ℕ
nt_old_offset = lm_new_offset + hash_size

abbrev pub nt_new_offset : ℕ
nt_new_offset = nt_old_offset + hash_size

abbrev pub length_offset : ℕ
length_offset = nt_new_offset + hash_size

abbrev pub one_flags_offset : ℕ
one_flags_offset = length_offset + 2

abbrev pub change_one_size : ℕ
change_one_size = one_flags_offset + 2
