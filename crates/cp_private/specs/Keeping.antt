-- What a change of a private state keeps, besides what its own clause says.
use Rattle.std.specs.Prelude.{◌≡◌, ◌<◌, ◌^◌, ℤ, List, length}
use Rattle.cp_private.specs.Rooms.{KeepsRoom}
use Rattle.cp_private.specs.declared.private.Private.{Private}

-- There are so few shared words that each address, own or shared, fits in a word.
abbrev pub IsAddressable : List ℤ → Type 0
IsAddressable shared = length shared < 2 ^ 30

-- The process has the same number, as many words of its own, and the same output.
pub record KeepsOwn (old new : Private) : Type 0 where
  pub output : new.output ≡ old.output
  pub words : length new.memory.words.items ≡ length old.memory.words.items
  pub number : new.number ≡ old.number

-- There are also as many shared words as before.
pub record KeepsRest (old : Private) (before : List ℤ) (new : Private) (after : List ℤ) : Type 0 where
  pub own : KeepsOwn old new
  pub shared : length after ≡ length before

-- The registers of the running activation stay the same.
pub record KeepsRegisters (old new : Private) : Type 0 where
  pub activity : new.activity ≡ old.activity
  pub base : new.memory.base ≡ old.memory.base
  pub temp : new.memory.temp ≡ old.memory.temp
  pub component : new.memory.component ≡ old.memory.component
  pub gate : new.gate ≡ old.gate
  pub depth : new.depth ≡ old.depth
  pub frames : length new.frames.items ≡ length old.frames.items

-- Only words are written: the registers, and how many frames there are, stay the same too.
pub record ChangesOnlyWords (old : Private) (before : List ℤ) (new : Private) (after : List ℤ) : Type 0 where
  pub rest : KeepsRest old before new after
  pub activity : new.activity ≡ old.activity
  pub base : new.memory.base ≡ old.memory.base
  pub temp : new.memory.temp ≡ old.memory.temp
  pub depth : new.depth ≡ old.depth
  pub frames : length new.frames.items ≡ length old.frames.items
  pub component : new.memory.component ≡ old.memory.component
  pub gate : new.gate ≡ old.gate
  pub kept : new.frames ≡ old.frames

-- ---- What is kept if output may be written

pub record KeepsOwnButOutput (old new : Private) : Type 0 where
  pub room : KeepsRoom old new
  pub words : length new.memory.words.items ≡ length old.memory.words.items
  pub number : new.number ≡ old.number

pub record KeepsRestButOutput (old : Private) (before : List ℤ) (new : Private) (after : List ℤ) : Type 0 where
  pub own : KeepsOwnButOutput old new
  pub shared : length after ≡ length before
