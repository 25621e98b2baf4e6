-- Private states with the same content.
use Rattle.std.specs.Prelude.{◌≡◌, length}
use Rattle.cp_private.specs.declared.private.Private.{Private}

pub record HasSameRegisters (x y : Private) : Type 0 where
  pub number : x.number ≡ y.number
  pub activity : x.activity ≡ y.activity
  pub counter : x.counter ≡ y.counter
  pub gate : x.gate ≡ y.gate
  pub base : x.memory.base ≡ y.memory.base
  pub temp : x.memory.temp ≡ y.memory.temp
  pub component : x.memory.component ≡ y.memory.component
  pub depth : x.depth ≡ y.depth
  pub limit : length x.frames.items ≡ length y.frames.items
  pub consumed : x.consumed ≡ y.consumed

pub record HasSameWords (x y : Private) : Type 0 where
  pub words : x.memory.words.items ≡ y.memory.words.items
  pub temps : x.memory.temps.items ≡ y.memory.temps.items
  pub output : x.output.items ≡ y.output.items

-- Both are of the same process, with as much room, and the other one has no output.
pub record HasSameRoom (x y : Private) : Type 0 where
  pub number : x.number ≡ y.number
  pub words : length x.memory.words.items ≡ length y.memory.words.items
  pub temps : length x.memory.temps.items ≡ length y.memory.temps.items
  pub limit : length x.frames.items ≡ length y.frames.items
  pub silent : length y.output.items ≡ 0
