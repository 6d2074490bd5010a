-- What a folder of the file system means, as a directory.
use Rattle.std.specs.Prelude.{ℕ, List, Option, None, true, ⊤}
use Rattle.oci_dir.specs.Device.{Device, File}

-- No code can show what a disk does. So these definitions are closed: only `FsDir` unfolds one of
-- them, and `stays_at` one in its own proof. What is proved of all other code holds whatever they
-- say.

-- the bytes of the file at each path
unfoldable pub files_at : List ℕ → File
files_at folder path = None

-- the bytes of the draft at each path
unfoldable pub drafts_at : List ℕ → File
drafts_at folder path = None

-- the path of the first folder of blobs that is a link, if one is
unfoldable pub link_at : List ℕ → Option (List ℕ)
link_at folder = None

-- what a crash now may leave of the file at each path
unfoldable pub may_leave_at : List ℕ → List ℕ → Option (List ℕ) → Type 0
may_leave_at folder path left = ⊤

-- it returns what was written to it, and no other program writes into it
unfoldable pub IsWatched : List ℕ → Type 0
IsWatched folder = ⊥

-- what is there now may be left
pub stays_at : (folder : List ℕ) → IsWatched folder → (path : List ℕ) → may_leave_at folder path (files_at folder path)
unfolding may_leave_at
stays_at folder watched path = tt

-- a folder of the file system, by its path and the number of its puts that failed
abbrev pub folder : List ℕ × ℕ → Device
folder dir = record {
  file = files_at dir.0;
  draft = drafts_at dir.0;
  link = link_at dir.0;
  may_leave = may_leave_at dir.0;
  is_honest = IsWatched dir.0;
  stays = stays_at dir.0;
  fails_reads = true;
  failures = dir.1;
}
